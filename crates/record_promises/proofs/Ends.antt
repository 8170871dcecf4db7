-- A text ends with a newline, since its last line does.
use Rattle.std.proofs.Common.{◌≡◌, refl, ap, ◌∙◌, Result, Ok, Err, List, ◌++◌, ℕ, ◌+◌, ◌-◌, ◌≤◌, length, drop, codes, arith}
use Rattle.std.proofs.Math.Seq.{drop-append-add}
use Rattle.std.proofs.lemmas.List.{length-append}
use Rattle.grid.specs.declared.refusals.Refusal.{Refusal}
use Rattle.answers.specs.declared.Xy.{Xy}
use Rattle.readings.specs.declared.figures.ReportFigures.{ReportFigures}
use Rattle.page.specs.Report.{newline, line, coordinate, numbered, colour_lines, reading_lines, text_of}

pub record Ends (text : List ℕ) : Type 0 where
  pub some : 1 ≤ length text
  pub ended : drop (length text - 1) text ≡ newline

behind : (front : List ℕ) {text : List ℕ} → Ends text → Ends (front ++ text)
behind front {text} e =
    let long = length-append front text in
    let place : length (front ++ text) - 1 ≡ length front + (length text - 1) = omega (arith, e.some) in
    record {
      some = omega (arith, e.some);
      ended = ap (λ (k : ℕ). drop k (front ++ text)) place ∙ drop-append-add front text (length text - 1) ∙ e.ended;
    }

line_ends : (word shown : List ℕ) → Ends (line word shown)
line_ends word shown = behind (word ++ shown) (record { some = omega arith; ended = refl })

colour_ends : (xy : Result Xy Refusal) → Ends (colour_lines xy)
colour_ends (Ok v) = behind (line (codes "x ") (coordinate v.x)) (line_ends (codes "y ") (coordinate v.y))
colour_ends (Err dark) = behind (line (codes "x ") (codes "-")) (line_ends (codes "y ") (codes "-"))

pub text_ends : (answer : Result ReportFigures Refusal) → Ends (text_of answer)
text_ends (Ok f) = behind (reading_lines f) (colour_ends f.xy)
text_ends (Err r) = line_ends (codes "refused ") (numbered r)

-- No text has more than 99 bytes: a reading has at most 10 digits and a coordinate 6, a refusal's number 2, and no place more than 64.
use Rattle.std.proofs.Common.{◌≡◌, false, Result, Ok, Err, List, [], ◌∷◌, ℕ, zero, suc, ◌+◌, ◌/◌, ◌%◌, ◌≤◌, length, codes, decimal, arith}
use Rattle.std.proofs.lemmas.Fmt.{length-decimal-le}
use Rattle.std.proofs.lemmas.Grind.{common_steps}
use Rattle.std.specs.Fmt.{digits, digits_onto, digit_glyph}
use borrow.Author.Tests.{le-leb}
use Rattle.std.proofs.lemmas.List.{length-append, length-drop}
use Rattle.grid.specs.declared.refusals.Kind.{Kind}
use Rattle.grid.specs.declared.refusals.Kind.TheVariants.{Sample}
use Rattle.grid.specs.declared.refusals.Refusal.{Refusal}
use Rattle.answers.specs.declared.Xy.{Xy}
use Rattle.readings.specs.declared.figures.ReportFigures.{ReportFigures}
use Rattle.page.specs.Recorded.{recorded_figures}
use Rattle.page.specs.Report.{coordinate, line, numbered, colour_lines, figure_lines, text_of, report_of}
use Rattle.page.specs.Answer.{report_answer}
use Rattle.page.proofs.Small.{Small, SmallXy, SmallFigures, recorded_small}

digits_most : (k n : ℕ) (behind : List ℕ) → length (digits_onto k 10 false n behind) ≤ k + length behind
digits_most zero n behind = omega arith
digits_most (suc k) n behind =
    let more = digits_most k (n / 10) (digit_glyph false (n % 10) ∷ behind) in
    grind (arith, common_steps)

-- any number has at most 64 digits, as they are defined
decimal_length : (n : ℕ) → length (decimal n) ≤ 64
unfolding digits
decimal_length n = digits_most 64 n []

reading_length : (n : ℕ) → n ≤ 4294967295 → length (decimal n) ≤ 10
reading_length n h = length-decimal-le 10 n (omega arith) (omega arith) (omega arith)

coordinate_length : (n : ℕ) → n ≤ 100000 → length (coordinate n) ≤ 7
coordinate_length n h =
    let whole = length-decimal-le 1 (n / 100000) (omega arith) (omega arith) (omega arith) in
    let places = length-decimal-le 6 (100000 + n % 100000) (omega arith) (omega arith) (omega arith) in
    simp (length-append, length-drop) (omega arith)

numbered_length : (kind : Kind) (place : ℕ) → length (numbered (record { kind = kind; place = place })) ≤ 69
unfolding digits
numbered_length Sample place = let places = decimal_length place in omega arith
numbered_length kind place = omega arith

line_length : (word shown : List ℕ) → length (line word shown) ≡ length word + length shown + 1
line_length word shown = simp length-append

colour_length : (xy : Result Xy Refusal) → SmallXy xy → length (colour_lines xy) ≤ 20
colour_length (Ok v) h =
    let x = line_length (codes "x ") (coordinate v.x) in
    let y = line_length (codes "y ") (coordinate v.y) in
    rw (length-append (line (codes "x ") (coordinate v.x)) (line (codes "y ") (coordinate v.y)))
    (omega (arith, coordinate_length v.x (h 0), coordinate_length v.y (h 1)))
colour_length (Err dark) h = omega arith

figures_length : (f : ReportFigures) → Small f → length (figure_lines f) ≤ 99
figures_length f h =
    let day = reading_length f.photopic h.photopic in
    let night = reading_length f.scotopic h.scotopic in
    let x = reading_length f.xyz.x h.x in
    let y = reading_length f.xyz.y h.y in
    let z = reading_length f.xyz.z h.z in
    let colour = colour_length f.xy h.xy in
    simp length-append (omega arith)

text_length : (answer : Result ReportFigures Refusal) → SmallFigures answer → length (text_of answer) ≤ 99
text_length (Ok f) h = figures_length f h
text_length (Err r) h = omega (arith, line_length (codes "refused ") (numbered r), numbered_length r.kind r.place)

pub most : (bytes : List ℕ) → length (report_of bytes) ≤ 99
most bytes = text_length (recorded_figures bytes) (recorded_small bytes)

-- a text of 99 bytes has room for any report
pub written : (bytes : List ℕ) (room : ℕ) → 99 ≤ room → report_answer bytes room ≡ Ok (length (report_of bytes))
written bytes room h = rw (le-leb (length (report_of bytes)) room (omega (arith, most bytes)))

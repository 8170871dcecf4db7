-- From the sample at or just below 360 on, a row is laid as the whole row is.
use Rattle.std.proofs.Common.{◌≡◌, ℕ, ◌-◌, List, map, take, drop, length, sym, ◌∙◌}
use Rattle.std.proofs.Math.Nat.{le_of_eq}
use Rattle.std.proofs.Math.ListN.{length-drop}
use Rattle.std.proofs.Math.Seq.{take_all}
use Rattle.std.proofs.lemmas.List.{drop-map}
use Rattle.grid.specs.Accepted.{OnGrid}
use Rattle.spectrum.specs.Begin.{Begins}
use Rattle.spectrum.specs.Lay.{row_of}
use Rattle.spectrum.specs.declared.line.Begin.{Begin}
use Rattle.spectrum.proofs.Lay.{row_begun}

-- of numbers that stand for others
module _ {A : Type 0} (f : A → ℕ) (values : List A → List ℕ) (each : (zs : List A) → values zs ≡ map f zs) where
  rest : (j : ℕ) (zs : List A) → take (length zs - j) (drop j zs) ≡ drop j zs
  rest j zs = take_all _ _ (le_of_eq (length-drop j zs))

  values_from : (j : ℕ) (zs : List A) → values (drop j zs) ≡ drop j (values zs)
  values_from j zs = rw (each zs) (each (drop j zs) ∙ sym (drop-map f j zs))

  module _ (a s : ℕ) (zs : List A) (on : OnGrid a s (length (values zs))) (b : Begin) (is : Begins a s b) where
    pub same_row :
        row_of b.wavelength s (values (take (length zs - b.place) (drop b.place zs))) ≡ row_of a s (values zs)
    same_row = rw (rest b.place zs, values_from b.place zs) (row_begun a s (values zs) on b is)

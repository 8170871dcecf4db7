-- A row whose numbers are read as they stand: no promise to a caller rests on the reading of this.
use Rattle.std.specs.Prelude.{◌≡◌, List, ℕ, map}
use Rattle.std.proofs.Common.{sym}
use Rattle.std.proofs.lemmas.List.{map-id}

pub as_they_are : (xs : List ℕ) → xs ≡ map (λ x. x) xs
as_they_are xs = sym (map-id xs)

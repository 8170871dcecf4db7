-- No entry of a list is above its largest.
use mathlib.Core.List.{List, [], ◌∷◌}
use Prim.Native.Nat.{ℕ, zero, suc, ◌≤◌, zero-le}
use native.Mathlib.Omega.{arith}
use lib.ListN.{get_or}
use Rattle.tables.specs.Column.{largest}

pub at_most_largest : (xs : List ℕ) (k : ℕ) → get_or xs k 0 ≤ largest xs
unfolding largest
at_most_largest [] k = zero-le
at_most_largest (x ∷ xs) zero = omega arith
at_most_largest (x ∷ xs) (suc k) = let h = at_most_largest xs k in omega arith

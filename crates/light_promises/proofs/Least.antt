-- The least of a list is at most each of its entries, and the largest is at least each.
use mathlib.Core.List.{List, [], ◌∷◌}
use Prim.Native.Nat.{ℕ, ◌≤◌}
use native.Mathlib.Nat.{le_refl}
use native.Mathlib.Omega.{arith}
use Rattle.mixing.specs.Mixture.{Each}
use Rattle.tables.specs.Column.{largest}
use Rattle.light_promises.specs.Strings.{least}

each_above : (v : ℕ) (xs : List ℕ) → v ≤ least xs → Each (λ x. v ≤ x) xs
unfolding least
each_above v [] h = tt
each_above v (x ∷ []) h = (h, tt)
each_above v (x ∷ y ∷ ys) h = (omega arith, each_above v (y ∷ ys) (omega arith))

pub above_least : (xs : List ℕ) → Each (λ x. least xs ≤ x) xs
above_least xs = each_above (least xs) xs (le_refl (least xs))

each_below : (v : ℕ) (xs : List ℕ) → largest xs ≤ v → Each (λ x. x ≤ v) xs
unfolding largest
each_below v [] h = tt
each_below v (x ∷ xs) h = (omega arith, each_below v xs (omega arith))

pub below_largest : (xs : List ℕ) → Each (λ x. x ≤ largest xs) xs
below_largest xs = each_below (largest xs) xs (le_refl (largest xs))

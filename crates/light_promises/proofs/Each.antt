-- What holds of each of a list: it holds at every place, and what is the same of each is the same of all.
use mathlib.Core.Path.{◌≡◌, refl, ap₂}
use mathlib.Core.List.{List, [], ◌∷◌, map}
use Prim.Native.Nat.{ℕ, zero, suc}
use lib.ListN.{get_or}
use Rattle.mixing.specs.Mixture.{Each}

-- past the last one too, if it holds of what stands there
pub each_at : {A : Type 0} (P : A → Type 0) {x : A} → P x → (xs : List A) → Each P xs → (i : ℕ) → P (get_or xs i x)
each_at P past [] each i = past
each_at P past (x ∷ xs) each zero = each.0
each_at P past (x ∷ xs) each (suc i) = each_at P past xs each.1 i

pub map_each :
    {A B : Type 0} {P : A → Type 0} {f g : A → B} → ((x : A) → P x → f x ≡ g x) → (xs : List A) → Each P xs → map f xs ≡ map g xs
map_each same [] each = refl
map_each {A} {B} same (x ∷ xs) each = ap₂ (λ (y : B) (ys : List B). y ∷ ys) (same x each.0) (map_each same xs each.1)

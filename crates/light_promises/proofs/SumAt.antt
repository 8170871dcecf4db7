-- Several sums of a row, and the one at a place.
use mathlib.Core.Path.{◌≡◌, refl, sym}
use mathlib.Core.List.{List, [], ◌∷◌, map}
use Prim.Native.Nat.{ℕ, zero, suc}
use lib.ListN.{get_or}
use Rattle.mixing.specs.Mixture.{Linear}

-- what each sum is of a row
abbrev pub sums_of : List (List ℕ → ℕ) → List ℕ → List ℕ
sums_of Fs xs = map (λ F. F xs) Fs

-- past the last sum stands the one that is always 0
abbrev pub sum_at : List (List ℕ → ℕ) → ℕ → List ℕ → ℕ
sum_at Fs i = get_or Fs i (λ xs. 0)

pub none_linear : (n : ℕ) → Linear n (λ xs. 0)
none_linear n = record { adds = λ xs ys p q. refl }

pub value_at :
    (f : ℕ → ℕ) → f 0 ≡ 0 → (Fs : List (List ℕ → ℕ)) (xs : List ℕ) (i : ℕ) → get_or (map f (sums_of Fs xs)) i 0 ≡ f (sum_at Fs i xs)
value_at f none [] xs i = sym none
value_at f none (F ∷ Fs) xs zero = refl
value_at f none (F ∷ Fs) xs (suc i) = value_at f none Fs xs i

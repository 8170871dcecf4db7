-- Sums over places, and weighted sums.
use Rattle.std.specs.Prelude.{List, [], ◌∷◌, ℕ, zero, suc, ◌+◌, ◌*◌, get_or}

-- the sum of f at the places below n
unfoldable pub total : ℕ → (ℕ → ℕ) → ℕ
total zero f = 0
total (suc n) f = total n f + f n

-- the sum of weight times line at the places below n
unfoldable pub weighted : ℕ → (ℕ → ℕ) → (ℕ → ℕ) → ℕ
weighted n v t = total n (λ k. v k * t k)

-- the sum of a list
unfoldable pub sum_of : List ℕ → ℕ
sum_of [] = 0
sum_of (x ∷ xs) = x + sum_of xs

-- a list as a line: its entry at a place, 0 past the end
abbrev pub entry_of : List ℕ → ℕ → ℕ
entry_of xs k = get_or xs k 0

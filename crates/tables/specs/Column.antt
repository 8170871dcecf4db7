-- What is said of a whole table: its length, its sum and its largest entry.
use Rattle.std.specs.Prelude.{◌≡◌, List, [], ◌∷◌, ℕ, max, length}
use Rattle.mixing.specs.Sum.{sum_of}

-- the largest entry of a list, 0 where it has none
unfoldable pub largest : List ℕ → ℕ
largest [] = 0
largest (x ∷ xs) = max x (largest xs)

-- 471 entries that add up to `sum`, and of which `top` is the largest
pub record Column (xs : List ℕ) (sum top : ℕ) : Type 0 where
  pub entries : length xs ≡ 471
  pub adds_up : sum_of xs ≡ sum
  pub largest_is : largest xs ≡ top

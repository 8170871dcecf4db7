-- What is promised of mixed light, for any weights and any line.
use Rattle.std.specs.Prelude.{◌≡◌, List, ◌∷◌, map, ℕ, ◌+◌, ◌*◌, ◌/◌, ◌≤◌, ◌<◌, length}
use Rattle.mixing.specs.Nearest.{nearest}
use Rattle.mixing.specs.Sum.{sum_of}
use Rattle.mixing.specs.Mixture.{mixture, Each, Rows, Below, Linear}

-- a and b differ by at most u
pub record Differ (u a b : ℕ) : Type 0 where
  pub above : a ≤ b + u
  pub below : b ≤ a + u

-- a reading of rows of n samples that keeps to half a unit a row, for any number of them from one on, and to the order
pub record Illuminance (n : ℕ) (reading : List ℕ → ℕ) : Type 0 where
  pub many :
      (xs : List ℕ) (xss : List (List ℕ)) → Rows n (xs ∷ xss) →
      Differ (length (xs ∷ xss) / 2) (reading (mixture n (xs ∷ xss))) (sum_of (map reading (xs ∷ xss)))
  pub order : (xs ys : List ℕ) → length xs ≡ n → length ys ≡ n → Below xs ys → reading xs ≤ reading ys

-- a coordinate of rows of n samples, where a row is dark if its divisor is 0: the mixture's lies between the least and the greatest of
-- those that are not dark
pub record Coordinate (n : ℕ) (divisor coordinate : List ℕ → ℕ) : Type 0 where
  pub least :
      (a : ℕ) (xss : List (List ℕ)) → Rows n xss → Each (λ xs. 0 < divisor xs → a ≤ coordinate xs) xss →
      0 < divisor (mixture n xss) → a ≤ coordinate (mixture n xss)
  pub greatest :
      (b : ℕ) (xss : List (List ℕ)) → Rows n xss → Each (λ xs. 0 < divisor xs → coordinate xs ≤ b) xss →
      0 < divisor (mixture n xss) → coordinate (mixture n xss) ≤ b

pub record Laws : Type 0 where
  -- a number and a half goes up
  pub halves_up : (n d : ℕ) → 0 < d → nearest ((2 * n + 1) * d) (2 * d) ≡ n + 1
  pub illuminance :
      (n d : ℕ) (F : List ℕ → ℕ) → Linear n F → 0 < d → Illuminance n (λ xs. nearest (F xs) d)
  pub coordinate :
      (n : ℕ) (N D : List ℕ → ℕ) → Linear n N → Linear n D → ((xs : List ℕ) → D xs ≡ 0 → N xs ≡ 0) →
      Coordinate n D (λ xs. nearest (N xs) (D xs))

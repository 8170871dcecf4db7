-- Which fractions have a nearest whole number of 32 bits.
use Rattle.std.specs.Prelude.{ℕ, ◌≤◌, ◌<◌}
use Rattle.mixing.specs.Nearest.{nearest}

-- d is not 0, and the nearest of n / d is at most 4,294,967,295
pub record Fits (n d : ℕ) : Type 0 where
  pub divisor : 0 < d
  pub most : nearest n d ≤ 4294967295

-- The nearest whole number of a fraction, halves up.
use Rattle.std.specs.Prelude.{ℕ, ◌+◌, ◌*◌, ◌/◌}

-- the nearest whole number of n / d, halves up (0 where d is 0)
unfoldable pub nearest : ℕ → ℕ → ℕ
nearest n d = (2 * n + d) / (2 * d)

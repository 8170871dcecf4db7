-- Slips that this trade makes, each a version of its own.
use Rattle.std.specs.Prelude.{List, [], ◌∷◌, ℕ, zero, suc, ◌+◌, ◌*◌, ◌-◌, ◌/◌, length, get_or}
use Rattle.mixing.specs.Nearest.{nearest}
use Rattle.mixing.specs.Sum.{total, weighted, entry_of}
use Rattle.tables.specs.declared.Curve.TheVariants.{YBar, ZBar}
use Rattle.tables.specs.Tables.{table}
use Rattle.tables.specs.Curves.{weight_of}
use Rattle.spectrum.specs.Line.{T}
use Rattle.efficacy.specs.Efficacy.{in_millilux}

-- x from the rounded X, Y, Z
abbrev pub x_from_rounded : ℕ → ℕ → ℕ → ℕ
x_from_rounded x y z = nearest (100000 * x) (x + y + z)

-- u′ from the rounded x and y, as 4 x / (-2 x + 12 y + 3)
abbrev pub u_from_rounded : ℕ → ℕ → ℕ
u_from_rounded x y = nearest (400000 * x) (12 * y + 300000 - 2 * x)

-- photopic illuminance with each product rounded before they are added up
abbrev pub each_rounded : ℕ → ℕ → List ℕ → ℕ
each_rounded a s xs = total 471 (λ k. in_millilux YBar s (weight_of YBar k * T a s xs (360 + k)))

-- with the weights at the samples alone, times the step, instead of the straight line
abbrev pub at_samples : ℕ → ℕ → List ℕ → ℕ
at_samples a s xs =
    in_millilux YBar 1 (s * total (length xs) (λ i. weight_of YBar (a + s * i - 360) * get_or xs i 0))

-- with T divided by s before it is weighed
abbrev pub divided_early : ℕ → ℕ → List ℕ → ℕ
divided_early a s xs = in_millilux YBar 1 (weighted 471 (weight_of YBar) (λ k. T a s xs (360 + k) / s))

-- a column in which an empty place is read as the entry above
unfoldable pub filled_down : ℕ → List ℕ → List ℕ
filled_down above [] = []
filled_down above (zero ∷ xs) = above ∷ filled_down above xs
filled_down above (suc x ∷ xs) = suc x ∷ filled_down (suc x) xs

-- Z by such a column
abbrev pub z_filled : ℕ → ℕ → List ℕ → ℕ
z_filled a s xs = in_millilux ZBar s (weighted 471 (entry_of (filled_down 0 (table ZBar))) (λ k. T a s xs (360 + k)))

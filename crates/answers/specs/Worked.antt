-- What exact sums give: nearest quotients, coordinates, and the chart's floats.
use Rattle.std.specs.Prelude.{Result, Ok, Err, ℕ, ◌+◌, ◌*◌, pos, Float, nat_lt}
use Rattle.std.specs.Float.{binary64}
use Rattle.std.specs.Float.Ieee.{div, of_int}
use Rattle.grid.specs.declared.refusals.Kind.TheVariants.{Dark}
use Rattle.grid.specs.declared.refusals.Refusal.{Refusal}
use Rattle.grid.specs.Check.{◌>>=◌, require}
use Rattle.mixing.specs.Nearest.{nearest}
use Rattle.answers.specs.declared.Xyz.{Xyz}
use Rattle.answers.specs.declared.Xy.{Xy}
use Rattle.answers.specs.declared.Uv.{Uv}
use Rattle.answers.specs.declared.ChartPoint.{ChartPoint}
use Rattle.answers.specs.declared.OnChart.{OnChart}

-- the nearest of each of x, y, z over d
abbrev pub xyz_from : ℕ → ℕ → ℕ → ℕ → Xyz
xyz_from x y z d = record { x = nearest x d; y = nearest y d; z = nearest z d }

-- a fraction in hundred-thousandths, nearest
abbrev pub in_hundred_thousandths : ℕ → ℕ → ℕ
in_hundred_thousandths n d = nearest (100000 * n) d

-- x = X / (X + Y + Z) and y = Y / (X + Y + Z)
abbrev pub xy_over : ℕ → ℕ → ℕ → Xy
xy_over x y z = record { x = in_hundred_thousandths x (x + y + z); y = in_hundred_thousandths y (x + y + z) }

-- those, or DARK where the divisor is 0
unfoldable pub xy_from : ℕ → ℕ → ℕ → Result Xy Refusal
xy_from x y z = do
  _ ← require (nat_lt 0 (x + y + z)) Dark
  Ok (xy_over x y z)

-- X + 15 Y + 3 Z
abbrev pub uv_divisor : ℕ → ℕ → ℕ → ℕ
uv_divisor x y z = x + 15 * y + 3 * z

-- u′ = 4 X / (X + 15 Y + 3 Z) and v′ = 9 Y / (X + 15 Y + 3 Z), as document 004, 3.5, has them
abbrev pub uv_over : ℕ → ℕ → ℕ → Uv
uv_over x y z =
    record { u = in_hundred_thousandths (4 * x) (uv_divisor x y z); v = in_hundred_thousandths (9 * y) (uv_divisor x y z) }

-- those, or DARK where the divisor is 0
unfoldable pub uv_from : ℕ → ℕ → ℕ → Result Uv Refusal
uv_from x y z = do
  _ ← require (nat_lt 0 (uv_divisor x y z)) Dark
  Ok (uv_over x y z)

-- a whole number of hundred-thousandths, made a float and divided once by 100000.0
unfoldable pub coordinate_float : ℕ → Float
coordinate_float n = div binary64 (of_int binary64 (pos n)) (of_int binary64 (pos 100000))

-- a point of four 64-bit floats
abbrev pub chart_point : Xy → Uv → ChartPoint
chart_point xy uv =
    record { x = coordinate_float xy.x; y = coordinate_float xy.y; u = coordinate_float uv.u; v = coordinate_float uv.v }

-- a point where x and y are given, else dark
unfoldable pub on_chart : Result Xy Refusal → Uv → OnChart
on_chart (Ok xy) uv = OnChart.Point (chart_point xy uv)
on_chart (Err r) uv = OnChart.Dark

-- where three sums stand on the chart
abbrev pub chart_from : ℕ → ℕ → ℕ → OnChart
chart_from x y z = on_chart (xy_from x y z) (uv_over x y z)

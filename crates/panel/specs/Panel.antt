-- Panel colour, as the rules have it.
use Rattle.std.specs.Prelude.{Result, Ok, List, ℕ, ◌*◌}
use Rattle.grid.specs.declared.refusals.Refusal.{Refusal}
use Rattle.grid.specs.Check.{Check, Fine, ◌>>=◌, grid_check}
use Rattle.mixing.specs.Sum.{total}
use Rattle.tables.specs.declared.Illuminant.{Illuminant}
use Rattle.tables.specs.declared.settings.Observer.{Observer}
use Rattle.tables.specs.Settings.{observer_of, illuminant_of, curves_of}
use Rattle.tables.specs.Curves.{lit_by}
use Rattle.spectrum.specs.Line.{W}
use Rattle.spectrum.specs.Spectrum.{Measured, reflected_of}
use Rattle.answers.specs.declared.Xyz.{Xyz}
use Rattle.answers.specs.declared.Xy.{Xy}
use Rattle.answers.specs.declared.Uv.{Uv}
use Rattle.answers.specs.declared.OnChart.{OnChart}
use Rattle.answers.specs.Sums.{Three}
use Rattle.answers.specs.Worked.{xyz_from, xy_from, uv_from, chart_from}

-- OBSERVER, ILLUMINANT, and then a grid under the same rules: STEP, START, COUNT
unfoldable pub setting_check : ℕ → ℕ → ℕ → ℕ → ℕ → Check
setting_check o i a s n = do
  _ ← observer_of o
  _ ← illuminant_of i
  grid_check a s n

-- who looks, under what, and a panel: OBSERVER, ILLUMINANT, STEP, START, COUNT, and then REFLECTANCE
unfoldable pub seen_of : ℕ → ℕ → ℕ → ℕ → List ℕ → Result (Observer × Illuminant × Measured) Refusal
seen_of o i a s rs = do
  observer ← observer_of o
  illuminant ← illuminant_of i
  panel ← reflected_of a s rs
  Ok (observer, illuminant, panel)

-- whether all of that is accepted
unfoldable pub panel_check : ℕ → ℕ → ℕ → ℕ → List ℕ → Check
panel_check o i a s rs = do
  _ ← seen_of o i a s rs
  Fine

-- multiply the chosen illuminant, T and x̄ at each nanometre from 360 to 830, and add up: the panel's X sum
abbrev pub panel_x_sum : Observer → Illuminant → ℕ → ℕ → List ℕ → ℕ
panel_x_sum o i a s rs = W (lit_by i (curves_of o).x) a s rs

-- Y and Z sums likewise, observer 10 with its own functions
abbrev pub panel_y_sum : Observer → Illuminant → ℕ → ℕ → List ℕ → ℕ
panel_y_sum o i a s rs = W (lit_by i (curves_of o).y) a s rs

abbrev pub panel_z_sum : Observer → Illuminant → ℕ → ℕ → List ℕ → ℕ
panel_z_sum o i a s rs = W (lit_by i (curves_of o).z) a s rs

abbrev pub panel_sums : Observer → Illuminant → ℕ → ℕ → List ℕ → Three
panel_sums o i a s rs = record { x = panel_x_sum o i a s rs; y = panel_y_sum o i a s rs; z = panel_z_sum o i a s rs }

-- the white sum adds illuminant times ȳ over the same nanometres, with the ȳ of the observer asked for
unfoldable pub white_sum : Observer → Illuminant → ℕ
white_sum o i = total 471 (lit_by i (curves_of o).y)

-- X is the nearest of 10 times the X sum over s times the white sum, in thousandths; Y and Z likewise
abbrev pub panel_xyz : Observer → Illuminant → ℕ → ℕ → List ℕ → Xyz
panel_xyz o i a s rs =
    xyz_from (10 * panel_x_sum o i a s rs) (10 * panel_y_sum o i a s rs) (10 * panel_z_sum o i a s rs) (s * white_sum o i)

unfoldable pub panel_xyz_of : ℕ → ℕ → ℕ → ℕ → List ℕ → Result Xyz Refusal
panel_xyz_of o i a s rs = do
  seen ← seen_of o i a s rs
  Ok (panel_xyz seen.0 seen.1 seen.2.start seen.2.step seen.2.samples)

-- the exact sums of what is seen
unfoldable pub sums_of : ℕ → ℕ → ℕ → ℕ → List ℕ → Result Three Refusal
sums_of o i a s rs = do
  seen ← seen_of o i a s rs
  Ok (panel_sums seen.0 seen.1 seen.2.start seen.2.step seen.2.samples)

-- x and y come from the three exact sums, each of the first two over the total
unfoldable pub panel_xy_of : ℕ → ℕ → ℕ → ℕ → List ℕ → Result Xy Refusal
panel_xy_of o i a s rs = do
  sums ← sums_of o i a s rs
  xy_from sums.x sums.y sums.z

-- u′ and v′ come from the same
unfoldable pub panel_uv_of : ℕ → ℕ → ℕ → ℕ → List ℕ → Result Uv Refusal
panel_uv_of o i a s rs = do
  sums ← sums_of o i a s rs
  uv_from sums.x sums.y sums.z

-- dark where x and y would be refused DARK; the other refusals hold as for x and y
unfoldable pub panel_chart_of : ℕ → ℕ → ℕ → ℕ → List ℕ → Result OnChart Refusal
panel_chart_of o i a s rs = do
  sums ← sums_of o i a s rs
  Ok (chart_from sums.x sums.y sums.z)

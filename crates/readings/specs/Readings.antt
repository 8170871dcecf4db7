-- Every reading of a light, as the rules' table has it.
use Rattle.std.specs.Prelude.{if◌then◌else◌, Result, Ok, Err, List, ℕ, ◌+◌, ◌*◌, ◌-◌, ◌^◌, nat_le, nat_eq}
use Rattle.grid.specs.declared.refusals.Kind.TheVariants as refused
use Rattle.grid.specs.declared.refusals.Refusal.{Refusal}
use Rattle.grid.specs.Check.{◌>>=◌, require, refusal}
use Rattle.mixing.specs.Nearest.{nearest}
use Rattle.tables.specs.declared.Curve.{Curve}
use Rattle.tables.specs.declared.Curve.TheVariants.{YBar, YBar10, VPrime, VF, VF10}
use Rattle.tables.specs.declared.settings.Observer.{Observer}
use Rattle.tables.specs.declared.settings.Observer.TheVariants.{Two}
use Rattle.tables.specs.Settings.{observer_of, curves_of}
use Rattle.tables.specs.Curves.{weight_of}
use Rattle.spectrum.specs.Line.{W}
use Rattle.spectrum.specs.Spectrum.{Measured, light_of}
use Rattle.efficacy.specs.Efficacy.{in_millilux, mesopic_bracket}
use Rattle.answers.specs.declared.Xyz.{Xyz}
use Rattle.answers.specs.declared.Xy.{Xy}
use Rattle.answers.specs.declared.Uv.{Uv}
use Rattle.answers.specs.declared.OnChart.{OnChart}
use Rattle.answers.specs.Sums.{Three}
use Rattle.answers.specs.Worked.{xy_from, uv_from, chart_from}
use Rattle.readings.specs.declared.figures.ReportFigures.{ReportFigures}

-- W of a curve
abbrev pub weighed : Curve → ℕ → ℕ → List ℕ → ℕ
weighed c a s xs = W (weight_of c) a s xs

-- W in millilux
abbrev pub millilux : Curve → ℕ → ℕ → List ℕ → ℕ
millilux c a s xs = in_millilux c s (weighed c a s xs)

-- an illuminance of a light
unfoldable pub illuminance_of : Curve → ℕ → ℕ → List ℕ → Result ℕ Refusal
illuminance_of c a s xs = do
  l ← light_of a s xs
  Ok (millilux c l.start l.step l.samples)

-- photopic: by V, which is ȳ
abbrev pub photopic_of : ℕ → ℕ → List ℕ → Result ℕ Refusal
photopic_of a s xs = illuminance_of YBar a s xs

-- scotopic: by V′
abbrev pub scotopic_of : ℕ → ℕ → List ℕ → Result ℕ Refusal
scotopic_of a s xs = illuminance_of VPrime a s xs

-- 10° photopic: by V10, which is ȳ10
abbrev pub photopic10_of : ℕ → ℕ → List ℕ → Result ℕ Refusal
photopic10_of a s xs = illuminance_of YBar10 a s xs

-- research: 32 is by the cone-fundamental curve of 2° and 40 by that of 10°; any other number is OBSERVER, before the light's own
abbrev pub research_of : ℕ → ℕ → ℕ → List ℕ → Result ℕ Refusal
research_of o a s xs =
    if nat_eq o 32 then illuminance_of VF a s xs
    else if nat_eq o 40 then illuminance_of VF10 a s xs
    else Err (refusal refused.Observer 0)

-- k · W(V) + (1000 - k) · W(V′)
abbrev pub mesopic_weighed : ℕ → ℕ → ℕ → List ℕ → ℕ
mesopic_weighed k a s xs = k * weighed YBar a s xs + (1000 - k) * weighed VPrime a s xs

-- in millilux: the nearest of 683000 (k · W(V) + (1000 - k) · W(V′)) / (s · 10^16 · bracket), with the bracket's own 10^16 above
abbrev pub mesopic_millilux : ℕ → ℕ → ℕ → List ℕ → ℕ
mesopic_millilux k a s xs = nearest (683000 * 10 ^ 16 * mesopic_weighed k a s xs) (s * 10 ^ 16 * mesopic_bracket k)

-- the mesopic reading at k. MESOPIC: k above 1000, before the light's own
unfoldable pub mesopic_of : ℕ → ℕ → ℕ → List ℕ → Result ℕ Refusal
mesopic_of k a s xs = do
  _ ← require (nat_le k 1000) refused.Mesopic
  l ← light_of a s xs
  Ok (mesopic_millilux k l.start l.step l.samples)

-- who looks, and a light: OBSERVER before the light's own
unfoldable pub seen_of : ℕ → ℕ → ℕ → List ℕ → Result (Observer × Measured) Refusal
seen_of o a s xs = do
  observer ← observer_of o
  l ← light_of a s xs
  Ok (observer, l)

-- W of the observer's x̄, ȳ and z̄
abbrev pub x_sum : Observer → ℕ → ℕ → List ℕ → ℕ
x_sum o a s xs = weighed (curves_of o).x a s xs

abbrev pub y_sum : Observer → ℕ → ℕ → List ℕ → ℕ
y_sum o a s xs = weighed (curves_of o).y a s xs

abbrev pub z_sum : Observer → ℕ → ℕ → List ℕ → ℕ
z_sum o a s xs = weighed (curves_of o).z a s xs

abbrev pub light_sums : Observer → ℕ → ℕ → List ℕ → Three
light_sums o a s xs = record { x = x_sum o a s xs; y = y_sum o a s xs; z = z_sum o a s xs }

-- X, Y, Z in millilux, by the observer's x̄, ȳ and z̄
abbrev pub light_xyz : Observer → ℕ → ℕ → List ℕ → Xyz
light_xyz o a s xs =
    record { x = millilux (curves_of o).x a s xs; y = millilux (curves_of o).y a s xs; z = millilux (curves_of o).z a s xs }

unfoldable pub xyz_of : ℕ → ℕ → ℕ → List ℕ → Result Xyz Refusal
xyz_of o a s xs = do
  seen ← seen_of o a s xs
  Ok (light_xyz seen.0 seen.1.start seen.1.step seen.1.samples)

-- the exact sums of what is seen
unfoldable pub sums_of : ℕ → ℕ → ℕ → List ℕ → Result Three Refusal
sums_of o a s xs = do
  seen ← seen_of o a s xs
  Ok (light_sums seen.0 seen.1.start seen.1.step seen.1.samples)

-- x and y, from the exact sums
unfoldable pub xy_of : ℕ → ℕ → ℕ → List ℕ → Result Xy Refusal
xy_of o a s xs = do
  sums ← sums_of o a s xs
  xy_from sums.x sums.y sums.z

-- u′ and v′, from the same
unfoldable pub uv_of : ℕ → ℕ → ℕ → List ℕ → Result Uv Refusal
uv_of o a s xs = do
  sums ← sums_of o a s xs
  uv_from sums.x sums.y sums.z

-- dark where x and y would be refused DARK; the other refusals hold as for x and y
unfoldable pub chart_of : ℕ → ℕ → ℕ → List ℕ → Result OnChart Refusal
chart_of o a s xs = do
  sums ← sums_of o a s xs
  Ok (chart_from sums.x sums.y sums.z)

-- the figures of the report, at observer 2, each as it is given by itself: x and y may be dark beside the others
abbrev pub light_figures : ℕ → ℕ → List ℕ → ReportFigures
light_figures a s xs =
    record {
      photopic = millilux YBar a s xs;
      scotopic = millilux VPrime a s xs;
      xyz = light_xyz Two a s xs;
      xy = xy_from (x_sum Two a s xs) (y_sum Two a s xs) (z_sum Two a s xs);
    }

unfoldable pub figures_of : ℕ → ℕ → List ℕ → Result ReportFigures Refusal
figures_of a s xs = do
  l ← light_of a s xs
  Ok (light_figures l.start l.step l.samples)

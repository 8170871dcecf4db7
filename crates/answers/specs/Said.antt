-- The rules' number, place and values for each case of each answer.
use Rattle.std.specs.Prelude.{Result, List, [], ◌∷◌, ℕ}
use Rattle.grid.specs.declared.refusals.Kind.TheVariants.{Dark}
use Rattle.grid.specs.declared.refusals.Refusal.{Refusal}
use Rattle.grid.specs.Check.{refusal}
use Rattle.grid.specs.Said.{Said, value, given, refused_with, said}
use Rattle.answers.specs.declared.Xyz.{Xyz}
use Rattle.answers.specs.declared.Xy.{Xy}
use Rattle.answers.specs.declared.Uv.{Uv}
use Rattle.answers.specs.declared.OnChart.{OnChart}

abbrev pub said_reading : Result ℕ Refusal → Said
said_reading = said (λ v. given (v ∷ []) [])

abbrev pub said_xyz : Result Xyz Refusal → Said
said_xyz = said (λ v. given (v.x ∷ v.y ∷ v.z ∷ []) [])

abbrev pub said_xy : Result Xy Refusal → Said
said_xy = said (λ v. given (v.x ∷ v.y ∷ []) [])

abbrev pub said_uv : Result Uv Refusal → Said
said_uv = said (λ v. given (v.u ∷ v.v ∷ []) [])

-- x and y beside other figures: their number, and x and y, 0 where they are refused
abbrev pub colour_values : Result Xy Refusal → List ℕ
colour_values xy = (said_xy xy).number ∷ value (said_xy xy) 0 ∷ value (said_xy xy) 1 ∷ []

-- dark is refused DARK, as x and y are, and has no values
abbrev pub said_on_chart : OnChart → Said
said_on_chart (OnChart.Point p) = given [] (p.x ∷ p.y ∷ p.u ∷ p.v ∷ [])
said_on_chart OnChart.Dark = refused_with (refusal Dark 0)

abbrev pub said_chart : Result OnChart Refusal → Said
said_chart = said said_on_chart

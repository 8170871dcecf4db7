-- The rules' number, place and values of the report's figures.
use Rattle.std.specs.Prelude.{Result, [], ◌∷◌}
use Rattle.grid.specs.declared.refusals.Refusal.{Refusal}
use Rattle.grid.specs.Said.{Said, given, said}
use Rattle.answers.specs.Said.{colour_values}
use Rattle.readings.specs.declared.figures.ReportFigures.{ReportFigures}

-- photopic, scotopic, X, Y, Z, the number of x and y, x, y
abbrev pub said_figures : Result ReportFigures Refusal → Said
said_figures = said (λ f. given (f.photopic ∷ f.scotopic ∷ f.xyz.x ∷ f.xyz.y ∷ f.xyz.z ∷ colour_values f.xy) [])

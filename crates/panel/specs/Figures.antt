-- A panel's X, Y, Z and x, y as one answer, and the rules' number, place and values of it.
use Rattle.std.specs.Prelude.{Result, Ok, List, [], ◌∷◌, ℕ}
use Rattle.grid.specs.declared.refusals.Refusal.{Refusal}
use Rattle.grid.specs.Check.{◌>>=◌}
use Rattle.grid.specs.Said.{Said, given, said}
use Rattle.tables.specs.declared.Illuminant.{Illuminant}
use Rattle.tables.specs.declared.settings.Observer.{Observer}
use Rattle.answers.specs.Said.{colour_values}
use Rattle.answers.specs.Worked.{xy_from}
use Rattle.panel.specs.declared.PanelFigures.{PanelFigures}
use Rattle.panel.specs.Panel.{seen_of, panel_x_sum, panel_y_sum, panel_z_sum, panel_xyz}

-- X, Y, Z and x, y, each as it is given by itself: x and y may be dark beside them
abbrev pub panel_figures : Observer → Illuminant → ℕ → ℕ → List ℕ → PanelFigures
panel_figures o i a s rs =
    record {
      xyz = panel_xyz o i a s rs;
      xy = xy_from (panel_x_sum o i a s rs) (panel_y_sum o i a s rs) (panel_z_sum o i a s rs);
    }

unfoldable pub panel_figures_of : ℕ → ℕ → ℕ → ℕ → List ℕ → Result PanelFigures Refusal
panel_figures_of o i a s rs = do
  seen ← seen_of o i a s rs
  Ok (panel_figures seen.0 seen.1 seen.2.start seen.2.step seen.2.samples)

-- X, Y, Z, the number of x and y, x, y
abbrev pub said_panel_figures : Result PanelFigures Refusal → Said
said_panel_figures = said (λ f. given (f.xyz.x ∷ f.xyz.y ∷ f.xyz.z ∷ colour_values f.xy) [])

-- What is promised of the numbers of the research figures: they have no colour, and no other number has a research figure.
use Rattle.std.specs.Prelude.{◌≡◌, List, ℕ}
use Rattle.grid.specs.declared.refusals.Kind.TheVariants.{Observer}
use Rattle.grid.specs.Check.{refusal}
use Rattle.grid.specs.Said.{Said, refused_with}
use Rattle.answers.specs.Said.{said_reading, said_xyz, said_xy, said_uv, said_chart}
use Rattle.readings.specs.Readings.{research_of, xyz_of, xy_of, uv_of, chart_of}
use Rattle.panel.specs.Panel.{panel_xyz_of, panel_xy_of, panel_uv_of, panel_chart_of}
use Rattle.panel.specs.Figures.{panel_figures_of, said_panel_figures}

-- refused as no observer
abbrev pub no_observer : Said
no_observer = refused_with (refusal Observer 0)

-- whatever colour is asked of the number, of a light or of a panel, and whatever is lent
pub record NoColour (o : ℕ) : Type 0 where
  pub xyz : (a s : ℕ) (xs : List ℕ) → said_xyz (xyz_of o a s xs) ≡ no_observer
  pub xy : (a s : ℕ) (xs : List ℕ) → said_xy (xy_of o a s xs) ≡ no_observer
  pub uv : (a s : ℕ) (xs : List ℕ) → said_uv (uv_of o a s xs) ≡ no_observer
  pub chart : (a s : ℕ) (xs : List ℕ) → said_chart (chart_of o a s xs) ≡ no_observer
  pub panel_xyz : (i a s : ℕ) (rs : List ℕ) → said_xyz (panel_xyz_of o i a s rs) ≡ no_observer
  pub panel_xy : (i a s : ℕ) (rs : List ℕ) → said_xy (panel_xy_of o i a s rs) ≡ no_observer
  pub panel_uv : (i a s : ℕ) (rs : List ℕ) → said_uv (panel_uv_of o i a s rs) ≡ no_observer
  pub panel_chart : (i a s : ℕ) (rs : List ℕ) → said_chart (panel_chart_of o i a s rs) ≡ no_observer
  pub panel_figures : (i a s : ℕ) (rs : List ℕ) → said_panel_figures (panel_figures_of o i a s rs) ≡ no_observer

pub record Research : Type 0 where
  pub no_colour_32 : NoColour 32
  pub no_colour_40 : NoColour 40
  -- a research figure that is asked of any other number, 2 and 10 too
  pub other :
      (o a s : ℕ) (xs : List ℕ) → (o ≡ 32 → ⊥) → (o ≡ 40 → ⊥) → said_reading (research_of o a s xs) ≡ no_observer

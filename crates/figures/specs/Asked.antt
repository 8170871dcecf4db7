-- What can be asked of the library, and its answers.
use Rattle.std.specs.Prelude.{List, ℕ}
use Rattle.grid.specs.Said.{Said}
use Rattle.answers.specs.Said.{said_reading, said_xyz, said_xy, said_uv}
use Rattle.panel.specs.Panel.{panel_xyz_of, panel_xy_of, panel_uv_of}
use Rattle.panel.specs.Figures.{panel_figures_of, said_panel_figures}
use Rattle.readings.specs.Readings.{photopic_of, scotopic_of, photopic10_of, research_of, mesopic_of, xyz_of, xy_of, uv_of}

-- a reading or a panel's colour, by its settings, start, step and samples
pub data Asked : Type 0 where
  photopic scotopic photopic10 : ℕ → ℕ → List ℕ → Asked
  research mesopic : ℕ → ℕ → ℕ → List ℕ → Asked
  xyz xy uv : ℕ → ℕ → ℕ → List ℕ → Asked
  panel_xyz panel_xy panel_uv panel_figures : ℕ → ℕ → ℕ → ℕ → List ℕ → Asked

-- what is then said
unfoldable pub answer_of : Asked → Said
answer_of (photopic a s xs) = said_reading (photopic_of a s xs)
answer_of (scotopic a s xs) = said_reading (scotopic_of a s xs)
answer_of (photopic10 a s xs) = said_reading (photopic10_of a s xs)
answer_of (research o a s xs) = said_reading (research_of o a s xs)
answer_of (mesopic k a s xs) = said_reading (mesopic_of k a s xs)
answer_of (xyz o a s xs) = said_xyz (xyz_of o a s xs)
answer_of (xy o a s xs) = said_xy (xy_of o a s xs)
answer_of (uv o a s xs) = said_uv (uv_of o a s xs)
answer_of (panel_xyz o i a s rs) = said_xyz (panel_xyz_of o i a s rs)
answer_of (panel_xy o i a s rs) = said_xy (panel_xy_of o i a s rs)
answer_of (panel_uv o i a s rs) = said_uv (panel_uv_of o i a s rs)
answer_of (panel_figures o i a s rs) = said_panel_figures (panel_figures_of o i a s rs)

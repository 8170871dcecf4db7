-- The number is looked at first, and 32 and 40 are no observers.
use Rattle.std.proofs.Common.{◌≡◌, refl, false, ℕ}
use borrow.Author.Tests.{ne_eqb}
use Rattle.tables.specs.Settings.{is_observer}
use Rattle.tables.proofs.Asked.{no_observer}
use Rattle.readings.specs.Readings.{seen_of, sums_of, xyz_of, xy_of, uv_of, chart_of}
use Rattle.panel.specs.Panel.{panel_xyz_of, panel_xy_of, panel_uv_of, panel_chart_of}
use Rattle.panel.specs.Panel.{seen_of as panel_seen_of, sums_of as panel_sums_of}
use Rattle.panel.specs.Figures.{panel_figures_of}
use Rattle.light_promises.specs.Research.{NoColour}
use Rattle.light_promises.proofs.lights.promise_research.Goals as goal

no_colour : (o : ℕ) → is_observer o ≡ false → NoColour o
unfolding seen_of sums_of xyz_of xy_of uv_of chart_of panel_seen_of panel_sums_of panel_xyz_of panel_xy_of panel_uv_of panel_chart_of panel_figures_of
no_colour o none = record {
  xyz = λ a s xs. rw (no_observer o none);
  xy = λ a s xs. rw (no_observer o none);
  uv = λ a s xs. rw (no_observer o none);
  chart = λ a s xs. rw (no_observer o none);
  panel_xyz = λ i a s rs. rw (no_observer o none);
  panel_xy = λ i a s rs. rw (no_observer o none);
  panel_uv = λ i a s rs. rw (no_observer o none);
  panel_chart = λ i a s rs. rw (no_observer o none);
  panel_figures = λ i a s rs. rw (no_observer o none);
}

pub returns : goal.returns
returns c = record {
  no_colour_32 = no_colour _ refl;
  no_colour_40 = no_colour _ refl;
  other = λ o a s xs p q. rw (ne_eqb o 32 p, ne_eqb o 40 q);
}

-- The row of an accepted panel: under an illuminant it weighs what the panel does.
use Rattle.std.proofs.Common.{◌≡◌, List, ℕ, ◌∙◌}
use Rattle.grid.specs.Check.{Within}
use Rattle.mixing.specs.Sum.{weighted}
use Rattle.tables.specs.declared.Curve.{Curve}
use Rattle.tables.specs.declared.Illuminant.{Illuminant}
use Rattle.tables.specs.declared.settings.Observer.{Observer}
use Rattle.tables.specs.Settings.{curves_of}
use Rattle.tables.specs.Curves.{weight_of, lit_by}
use Rattle.curves.specs.Lit.{lit_line, IsLit}
use Rattle.curves.proofs.Product.{weighs_as_lit}
use Rattle.spectrum.specs.Line.{W}
use Rattle.spectrum.specs.Lay.{row_of}
use Rattle.spectrum.specs.Spectrum.{Measured, Accepted}
use Rattle.spectrum.proofs.Light.{row_within, row_weighed}
use Rattle.answers.specs.Sums.{Three}
use Rattle.panel.specs.Panel.{panel_sums}

module _ (m : Measured) (row : List ℕ) (is : row ≡ row_of m.start m.step m.samples) where
  pub row_small : Accepted 10000 m → Within 100000 row
  row_small ok = rw is (row_within m.start m.step 10000 m.samples ok.on.step_low ok.on.step_high ok.within)

  module _ (i : Illuminant) (high low : List ℕ) (lit : IsLit i row high low) where
    weighs : (c : Curve) → weighted 471 (weight_of c) (lit_line high low) ≡ W (lit_by i c) m.start m.step m.samples
    weighs c =
        weighs_as_lit i c row (lit_line high low) lit ∙ rw is (row_weighed (lit_by i c) m.start m.step m.samples)

    pub row_sums_are :
        (o : Observer) →
        ◌≡◌ {A = Three}
        (record {
          x = weighted 471 (weight_of (curves_of o).x) (lit_line high low);
          y = weighted 471 (weight_of (curves_of o).y) (lit_line high low);
          z = weighted 471 (weight_of (curves_of o).z) (lit_line high low);
        })
        (panel_sums o i m.start m.step m.samples)
    row_sums_are o = rw (weighs (curves_of o).x, weighs (curves_of o).y, weighs (curves_of o).z)

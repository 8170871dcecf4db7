-- The row of an accepted light: what it weighs is the light's, and so are the readings that are worked from it.
use Rattle.std.proofs.Common.{◌≡◌, List, ℕ, ◌+◌, ◌*◌, ◌-◌, ◌≤◌, sym}
use Rattle.grid.specs.Check.{Within}
use Rattle.mixing.specs.Nearest.{nearest}
use Rattle.exact.specs.Fits.{Fits}
use Rattle.tables.specs.declared.Curve.{Curve}
use Rattle.tables.specs.declared.Curve.TheVariants.{XBar, YBar, ZBar, VPrime}
use Rattle.tables.specs.declared.settings.Observer.{Observer}
use Rattle.tables.specs.declared.settings.Observer.TheVariants.{Two}
use Rattle.tables.specs.Settings.{curves_of}
use Rattle.tables.specs.Curves.{weight_of}
use Rattle.spectrum.specs.Lay.{row_of}
use Rattle.spectrum.specs.Spectrum.{Measured, Accepted}
use Rattle.spectrum.proofs.Light.{row_within, row_weighed}
use Rattle.answers.specs.Sums.{XyzFit}
use Rattle.answers.specs.Worked.{xyz_from, xy_from}
use Rattle.efficacy.specs.Divisors.{divisor_of}
use Rattle.efficacy.proofs.Worked.{millilux_worked}
use Rattle.readings.specs.Readings.{weighed, millilux, mesopic_millilux, light_sums, x_sum, y_sum, z_sum, light_figures}
use Rattle.readings.specs.declared.figures.ReportFigures.{ReportFigures}
use Rattle.readings.specs.Sums.{mesopic_divisor, row_sum, row_sums}
use Rattle.readings.proofs.Worked.{one_divisor, xyz_worked, mesopic_worked}
use Rattle.readings.proofs.Small.{millilux_fits, mesopic_fits}

module _ (m : Measured) (ok : Accepted 1000000 m) where
  -- each of the three sums gives millilux of 32 bits
  pub xyz_fit :
      (o : Observer) →
      XyzFit (683 * x_sum o m.start m.step m.samples) (683 * y_sum o m.start m.step m.samples) (683 * z_sum o m.start m.step m.samples)
      (m.step * divisor_of (curves_of o).y)
  xyz_fit o =
      let fits = millilux_fits m.start m.step m.samples ok in
      let one = one_divisor o in
      record { x_fits = rw one.0 at (fits (curves_of o).x); y_fits = fits (curves_of o).y; z_fits = rw one.1 at (fits (curves_of o).z) }

  module _ (row : List ℕ) (is : row ≡ row_of m.start m.step m.samples) where
    pub row_small : Within 10000000 row
    row_small = rw is (row_within m.start m.step 1000000 m.samples ok.on.step_low ok.on.step_high ok.within)

    pub weighs : (c : Curve) → row_sum c row ≡ weighed c m.start m.step m.samples
    weighs c = rw is (row_weighed (weight_of c) m.start m.step m.samples)

    pub row_fits : (c : Curve) → Fits (683 * row_sum c row) (m.step * divisor_of c)
    row_fits c = rw (weighs c) (millilux_fits m.start m.step m.samples ok c)

    pub row_millilux : (c : Curve) → nearest (683 * row_sum c row) (m.step * divisor_of c) ≡ millilux c m.start m.step m.samples
    row_millilux c = rw (weighs c) (sym (millilux_worked c m.step (weighed c m.start m.step m.samples)))

    pub row_mesopic_fits :
        (k : ℕ) → k ≤ 1000 → Fits (683 * (k * row_sum YBar row + (1000 - k) * row_sum VPrime row)) (mesopic_divisor k m.step)
    row_mesopic_fits k few = rw (weighs YBar, weighs VPrime) (mesopic_fits m.start m.step m.samples ok k few)

    pub row_mesopic :
        (k : ℕ) →
        nearest (683 * (k * row_sum YBar row + (1000 - k) * row_sum VPrime row)) (mesopic_divisor k m.step)
        ≡ mesopic_millilux k m.start m.step m.samples
    row_mesopic k = rw (weighs YBar, weighs VPrime) (sym (mesopic_worked k m.start m.step m.samples))

    pub row_sums_are : (o : Observer) → row_sums o row ≡ light_sums o m.start m.step m.samples
    row_sums_are o = rw (weighs (curves_of o).x, weighs (curves_of o).y, weighs (curves_of o).z)

    pub row_xyz_fit :
        (o : Observer) →
        XyzFit (683 * (row_sums o row).x) (683 * (row_sums o row).y) (683 * (row_sums o row).z) (m.step * divisor_of (curves_of o).y)
    row_xyz_fit o = rw (weighs (curves_of o).x, weighs (curves_of o).y, weighs (curves_of o).z) (xyz_fit o)

    pub row_figures :
        let sums = row_sums Two row in
        let xyz = xyz_from (683 * sums.x) (683 * sums.y) (683 * sums.z) (m.step * divisor_of YBar) in
        ◌≡◌ {A = ReportFigures}
        (record {
          photopic = xyz.y;
          scotopic = nearest (683 * row_sum VPrime row) (m.step * divisor_of VPrime);
          xyz = xyz;
          xy = xy_from sums.x sums.y sums.z;
        })
        (light_figures m.start m.step m.samples)
    row_figures =
        rw (
          weighs XBar,
          weighs YBar,
          weighs ZBar,
          weighs VPrime,
          xyz_worked Two m.start m.step m.samples,
          millilux_worked VPrime m.step (weighed VPrime m.start m.step m.samples),
          millilux_worked YBar m.step (weighed YBar m.start m.step m.samples),
        )

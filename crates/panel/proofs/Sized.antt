-- X, Y, Z of an accepted panel pass no 32 bits, and what they are divided by is not 0.
use Rattle.std.proofs.Common.{ℕ, ◌*◌, ◌^◌, ◌≤◌, ◌<◌, arith}
use Rattle.std.proofs.Math.Nat.{le_trans, mul-pos, mul-le-mul, mul-le-mul_left, mul-le-mul_right}
use lib.Dec.{lit≤}
use Rattle.exact.specs.Fits.{Fits}
use Rattle.tables.specs.declared.Curve.{Curve}
use Rattle.tables.specs.declared.Illuminant.{Illuminant}
use Rattle.tables.specs.declared.Illuminant.TheVariants.{A, D65}
use Rattle.tables.specs.declared.settings.Observer.{Observer}
use Rattle.tables.specs.declared.settings.Observer.TheVariants.{Two, Ten}
use Rattle.tables.specs.Settings.{curves_of}
use Rattle.tables.specs.Columns.{lit_sum}
use Rattle.tables.specs.Curves.{lit_by}
use Rattle.tables.proofs.Lit.{lit_sum_lem}
use Rattle.tables.proofs.Sums.{lit_total}
use Rattle.mixing.specs.Sum.{total}
use Rattle.mixing.proofs.Nearest.{nearest_bound}
use Rattle.spectrum.specs.Line.{W}
use Rattle.spectrum.specs.Spectrum.{Measured, Accepted}
use Rattle.spectrum.proofs.Light.{W_bound}
use Rattle.answers.specs.Sums.{XyzFit}
use Rattle.answers.specs.Worked.{uv_divisor}
use Rattle.panel.specs.Panel.{white_sum, panel_x_sum, panel_y_sum, panel_z_sum}

module _ (o : Observer) (i : Illuminant) where
  -- no white sum is below 1.05 · 10^22
  white_some : 10500000000000000000000 ≤ white_sum o i
  unfolding white_sum
  white_some = rw (lit_sum_lem i (curves_of o).y) (computed o i)
    where
      computed : (o : Observer) (i : Illuminant) → 10500000000000000000000 ≤ lit_sum i (curves_of o).y
      computed Two A = lit≤ tt
      computed Two D65 = lit≤ tt
      computed Ten A = lit≤ tt
      computed Ten D65 = lit≤ tt

  pub white_lit : 0 < white_sum o i
  white_lit = let some = white_some in omega arith

  pub white_small : white_sum o i ≤ 13000000000000000000000
  unfolding white_sum
  white_small = lit_total i (curves_of o).y

  module _ (m : Measured) (ok : Accepted 10000 m) where
    bound : (v : ℕ → ℕ) → W v m.start m.step m.samples ≤ m.step * 10000 * total 471 v
    bound v = W_bound v m.start m.step 10000 m.samples ok.on.step_low ok.within

    sum_small : (c : Curve) → W (lit_by i c) m.start m.step m.samples ≤ 10 * 10000 * 13000000000000000000000
    sum_small c = le_trans (bound (lit_by i c)) (mul-le-mul (mul-le-mul_right 10000 ok.on.step_high) (lit_total i c))

    -- what u′ and v′ are divided by is a number of 96 bits
    pub colour_small :
        let s = m.step in
        uv_divisor (panel_x_sum o i m.start s m.samples) (panel_y_sum o i m.start s m.samples) (panel_z_sum o i m.start s m.samples) < 2 ^ 96
    colour_small =
        let x = sum_small (curves_of o).x in
        let y = sum_small (curves_of o).y in
        let z = sum_small (curves_of o).z in
        omega arith

    pub divisor_some : 0 < m.step * white_sum o i
    divisor_some = mul-pos ok.on.step_low white_lit

    -- no curve's sum under an illuminant is 1.3 times the white sum
    fits : (c : Curve) → Fits (10 * W (lit_by i c) m.start m.step m.samples) (m.step * white_sum o i)
    fits c =
        let v = lit_by i c in
        let s = m.step in
        let x : W v m.start s m.samples ≤ s * 10000 * total 471 v = bound v in
        let y : s * 10000 * total 471 v ≤ s * 10000 * 13000000000000000000000 = mul-le-mul_left (s * 10000) (lit_total i c) in
        let z : s * 10500000000000000000000 ≤ s * white_sum o i = mul-le-mul_left s white_some in
        let n = nearest_bound 130000 (10 * W v m.start s m.samples) (s * white_sum o i) (omega arith) in
        record { divisor = divisor_some; most = omega arith }

    pub xyz_fit :
        XyzFit (10 * panel_x_sum o i m.start m.step m.samples) (10 * panel_y_sum o i m.start m.step m.samples)
        (10 * panel_z_sum o i m.start m.step m.samples) (m.step * white_sum o i)
    xyz_fit = record { x_fits = fits (curves_of o).x; y_fits = fits (curves_of o).y; z_fits = fits (curves_of o).z }

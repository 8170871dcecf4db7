-- The sums of samples within the limit have a bound, so every reading is a number of 32 bits, and every sum on the way one of 96.
use Rattle.std.proofs.Common.{List, ℕ, ◌*◌, ◌-◌, ◌^◌, ◌≤◌, ◌<◌, arith}
use Rattle.std.proofs.Math.Nat.{mul_assoc, mul-le-mul_left}
use Rattle.grid.specs.Check.{Within}
use Rattle.mixing.proofs.Nearest.{nearest_bound}
use Rattle.exact.specs.Fits.{Fits}
use Rattle.tables.specs.declared.Curve.{Curve}
use Rattle.tables.specs.declared.Curve.TheVariants.{XBar, YBar, ZBar, VPrime}
use Rattle.tables.specs.declared.settings.Observer.{Observer}
use Rattle.tables.specs.Settings.{curves_of}
use Rattle.tables.specs.Curves.{weight_of}
use Rattle.tables.specs.Columns.{table_sum}
use Rattle.tables.proofs.Columns.{column_total}
use Rattle.tables.proofs.Sums.{table_sum_small}
use Rattle.spectrum.specs.Spectrum.{Accepted}
use Rattle.spectrum.proofs.Light.{W_bound}
use Rattle.answers.specs.Worked.{uv_divisor}
use Rattle.efficacy.specs.Divisors.{divisor_of}
use Rattle.efficacy.proofs.Worked.{divisor_bounds, millilux_worked}
use Rattle.readings.specs.Readings.{weighed, millilux, mesopic_weighed, x_sum, y_sum, z_sum, light_figures}
use Rattle.readings.specs.Sums.{mesopic_divisor}
use Rattle.readings.proofs.Setting.{mixed_order, mixed_same}

module _ (a s : ℕ) (xs : List ℕ) (low : 1 ≤ s) (within : Within 1000000 xs) (c : Curve) where
  -- the sum of a light that is at the limit everywhere is the greatest
  pub weighed_most : weighed c a s xs ≤ s * (1000000 * table_sum c)
  weighed_most =
      rw (mul_assoc s 1000000 (table_sum c)) at (rw (column_total c) at (W_bound (weight_of c) a s 1000000 xs low within))

  pub weighed_small : weighed c a s xs ≤ s * 2000000000000000000000
  weighed_small =
      let most = weighed_most in
      let few : s * (1000000 * table_sum c) ≤ s * (1000000 * 2000000000000000) = mul-le-mul_left s (mul-le-mul_left 1000000 (table_sum_small c)) in
      omega arith

mesopic_ratio :
    (s w d : ℕ) → w ≤ 1000 * (s * 2000000000000000000000) → 1000 * (s * 4000000000000000) ≤ d → 683 * w ≤ 1000000000 * d
mesopic_ratio s w d p q = omega arith

-- every reading of an accepted light is a number of 32 bits
module _ (a s : ℕ) (xs : List ℕ) (ok : Accepted 1000000 (record { start = a; step = s; samples = xs })) where
  step_some : 0 < s
  step_some = ok.on.step_low

  small : (c : Curve) → weighed c a s xs ≤ s * 2000000000000000000000
  small = weighed_small a s xs step_some ok.within

  -- what a curve's sum is divided by is at least s times 4 · 10^15
  least : (c : Curve) → s * 4000000000000000 ≤ s * divisor_of c
  least c = mul-le-mul_left s (divisor_bounds c).0

  -- what u′ and v′ are divided by is a number of 96 bits
  pub divisor_small : (o : Observer) → uv_divisor (x_sum o a s xs) (y_sum o a s xs) (z_sum o a s xs) < 2 ^ 96
  divisor_small o =
      let high = ok.on.step_high in
      let x = small (curves_of o).x in
      let y = small (curves_of o).y in
      let z = small (curves_of o).z in
      omega arith

  pub millilux_fits : (c : Curve) → Fits (683 * weighed c a s xs) (s * divisor_of c)
  millilux_fits c =
      let some = step_some in
      let sum = small c in
      let divisor = least c in
      record { divisor = omega arith; most = nearest_bound 4294967295 (683 * weighed c a s xs) (s * divisor_of c) (omega arith) }

  pub figures_most :
      let f = light_figures a s xs in
      (f.photopic ≤ 4294967295)
      × (f.scotopic ≤ 4294967295)
      × (f.xyz.x ≤ 4294967295)
      × (f.xyz.y ≤ 4294967295)
      × (f.xyz.z ≤ 4294967295)
  figures_most =
      let most : (c : Curve) → millilux c a s xs ≤ 4294967295 = (λ c. rw (millilux_worked c s (weighed c a s xs)) (millilux_fits c).most) in
      (most YBar, most VPrime, most XBar, most YBar, most ZBar)

  pub mesopic_fits : (k : ℕ) → k ≤ 1000 → Fits (683 * mesopic_weighed k a s xs) (mesopic_divisor k s)
  mesopic_fits k few =
      let some = step_some in
      let sum = rw (mixed_same k (s * 2000000000000000000000) few) at (mixed_order k (1000 - k) (small YBar) (small VPrime)) in
      let divisor = rw (mixed_same k (s * 4000000000000000) few) at (mixed_order k (1000 - k) (least YBar) (least VPrime)) in
      let most = nearest_bound 1000000000 _ _ (mesopic_ratio s (mesopic_weighed k a s xs) (mesopic_divisor k s) sum divisor) in
      record { divisor = omega arith; most = omega arith }

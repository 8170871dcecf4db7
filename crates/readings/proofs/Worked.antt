-- Each reading of a light is a nearest quotient of 683 times its sum, since what the fractions have in common cancels.
use Rattle.std.proofs.Common.{◌≡◌, refl, List, ℕ, ◌+◌, ◌*◌, ◌-◌, ◌^◌, Ok, nat_le, arith}
use lib.Dec.{lit≤}
use Rattle.grid.specs.declared.refusals.Kind.TheVariants.{Mesopic}
use Rattle.grid.specs.Check.{◌>>=◌, require}
use Rattle.mixing.specs.Nearest.{nearest}
use Rattle.mixing.proofs.Nearest.{nearest_cancel}
use Rattle.tables.specs.declared.Curve.{Curve}
use Rattle.tables.specs.declared.Curve.TheVariants.{YBar, VPrime}
use Rattle.tables.specs.declared.settings.Observer.{Observer}
use Rattle.tables.specs.declared.settings.Observer.TheVariants.{Two, Ten}
use Rattle.tables.specs.Settings.{curves_of}
use Rattle.spectrum.specs.Spectrum.{light_of}
use Rattle.answers.specs.Worked.{xyz_from}
use Rattle.efficacy.specs.Divisors.{divisor_of}
use Rattle.efficacy.proofs.Worked.{millilux_worked, bracket_is}
use Rattle.readings.specs.Readings.{weighed, illuminance_of, mesopic_weighed, mesopic_millilux, mesopic_of, seen_of, x_sum, y_sum, z_sum, light_xyz, xyz_of}
use Rattle.readings.specs.Sums.{mesopic_divisor}
use Rattle.readings.proofs.Setting.{mixed_times}

-- an observer's three curves have one divisor
pub one_divisor :
    (o : Observer) → (divisor_of (curves_of o).x ≡ divisor_of (curves_of o).y) × (divisor_of (curves_of o).z ≡ divisor_of (curves_of o).y)
one_divisor Two = (refl, refl)
one_divisor Ten = (refl, refl)

pub xyz_worked :
    (o : Observer) (a s : ℕ) (xs : List ℕ) →
    light_xyz o a s xs
    ≡ xyz_from (683 * x_sum o a s xs) (683 * y_sum o a s xs) (683 * z_sum o a s xs) (s * divisor_of (curves_of o).y)
xyz_worked o a s xs =
    let one = one_divisor o in
    rw (
      millilux_worked (curves_of o).x s (x_sum o a s xs),
      millilux_worked (curves_of o).y s (y_sum o a s xs),
      millilux_worked (curves_of o).z s (z_sum o a s xs),
      one.0,
      one.1,
    )

-- a thousand and 10^16 cancel in the mesopic fraction
pub mesopic_worked :
    (k a s : ℕ) (xs : List ℕ) → mesopic_millilux k a s xs ≡ nearest (683 * mesopic_weighed k a s xs) (mesopic_divisor k s)
mesopic_worked k a s xs =
    let w = mesopic_weighed k a s xs in
    let bracket = k * divisor_of YBar + (1000 - k) * divisor_of VPrime in
    rw (bracket_is k, over w, under s bracket, mixed_times s k (1000 - k) (divisor_of YBar) (divisor_of VPrime))
    (nearest_cancel (1000 * 10 ^ 16) (683 * w) (s * bracket) (lit≤ tt))
  where
    over : (w : ℕ) → 683000 * 10 ^ 16 * w ≡ 1000 * 10 ^ 16 * (683 * w)
    over w = omega arith

    under : (s b : ℕ) → s * 10 ^ 16 * (1000 * b) ≡ 1000 * 10 ^ 16 * (s * b)
    under s b = omega arith

-- and so is each reading, refusals and all
module _ (a s : ℕ) (xs : List ℕ) where
  pub illuminance_is :
      (c : Curve) →
      illuminance_of c a s xs ≡ (light_of a s xs >>= (λ l. Ok (nearest (683 * weighed c l.start l.step l.samples) (l.step * divisor_of c))))
  unfolding illuminance_of
  illuminance_is c = λ i. light_of a s xs >>= (λ l. Ok (millilux_worked c l.step (weighed c l.start l.step l.samples) i))

  pub mesopic_is :
      (k : ℕ) →
      mesopic_of k a s xs
      ≡ (require (nat_le k 1000) Mesopic >>= (λ _. light_of a s xs >>= (λ l.
      Ok (nearest (683 * mesopic_weighed k l.start l.step l.samples) (mesopic_divisor k l.step)))))
  unfolding mesopic_of
  mesopic_is k =
      λ i. require (nat_le k 1000) Mesopic >>= (λ _. light_of a s xs >>= (λ l. Ok (mesopic_worked k l.start l.step l.samples i)))

  pub xyz_is :
      (o : ℕ) →
      xyz_of o a s xs
      ≡ (seen_of o a s xs >>= (λ seen.
      let l = seen.1 in
      Ok (xyz_from (683 * x_sum seen.0 l.start l.step l.samples) (683 * y_sum seen.0 l.start l.step l.samples)
      (683 * z_sum seen.0 l.start l.step l.samples) (l.step * divisor_of (curves_of seen.0).y))))
  unfolding xyz_of
  xyz_is o = λ i. seen_of o a s xs >>= (λ seen. Ok (xyz_worked seen.0 seen.1.start seen.1.step seen.1.samples i))

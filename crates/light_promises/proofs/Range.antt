-- The greatest readings: no sum passes that of a light at the limit everywhere, whose readings are computed from the tables' sums.
use mathlib.Core.Path.{◌≡◌, refl}
use mathlib.Core.Bool.{true}
use Rattle.std.proofs.Common.{Ok}
use mathlib.Core.List.{List, [], ◌∷◌}
use Prim.Native.Nat.{ℕ, zero, suc, ◌+◌, ◌*◌, ◌-◌, ◌≤◌, zero-le}
use native.Mathlib.Nat.{le_refl, mul_left_comm, mul-le-mul_left}
use native.Mathlib.Omega.{arith}
use borrow.Author.Tests.{le-leb}
use lib.ListN.{get_or, replicate}
use Rattle.grid.specs.Check.{Fine, grid_check, light_check}
use Rattle.grid.proofs.Accepted.{accepted}
use Rattle.grid.proofs.Light.{within, on_grid}
use Rattle.mixing.specs.Nearest.{nearest}
use Rattle.mixing.proofs.Nearest.{nearest_cancel, nearest_scaled, nearest_lt}
use Rattle.tables.specs.declared.Curve.{Curve}
use Rattle.tables.specs.declared.Curve.TheVariants.{YBar, VPrime}
use Rattle.tables.specs.declared.settings.Observer.{Observer}
use Rattle.tables.specs.Settings.{is_observer, observer_of, curves_of}
use Rattle.tables.specs.Curves.{weight_of}
use Rattle.tables.specs.Columns.{table_sum}
use Rattle.tables.proofs.Asked.{the_observer}
use Rattle.tables.proofs.Columns.{column_total}
use Rattle.answers.specs.Worked.{xy_from, uv_from, chart_from}
use Rattle.answers.specs.Said.{said_reading, said_xyz, said_xy, said_uv, said_on_chart, said_chart}
use Rattle.answers.proofs.Values.{xy_unless_dark, xy_most, uv_most, uv_refused, chart_refused}
use Rattle.efficacy.specs.Divisors.{divisor_of}
use Rattle.efficacy.proofs.Worked.{millilux_worked}
use Rattle.readings.specs.Readings.{weighed, millilux, illuminance_of, mesopic_of, mesopic_weighed, mesopic_millilux, xyz_of, xy_of, uv_of, chart_of, figures_of}
use Rattle.readings.specs.Figures.{said_figures}
use Rattle.readings.proofs.Given.{illuminance_given, mesopic_given, xyz_given, xy_given, uv_given, chart_given, figures_given}
use Rattle.readings.proofs.Setting.{mixed_times, mixed_order}
use Rattle.readings.proofs.Worked.{mesopic_worked}
use Rattle.readings.proofs.Small.{weighed_most}
use Rattle.spectrum.proofs.Constant.{W_constant}
use Rattle.light_promises.specs.Range.{Greatest, mesopic_greatest, Coordinates}
use Rattle.light_promises.proofs.Constant.{light_accepted, nearest_constant, no_more}

module _ (c : Curve) where
  abbrev greatest : ℕ
  greatest = nearest (683 * (1000000 * table_sum c)) (divisor_of c)

  millilux_most : (a s : ℕ) (xs : List ℕ) → light_check a s xs ≡ Fine → millilux c a s xs ≤ greatest
  millilux_most a s xs fine =
      rw (millilux_worked c s (weighed c a s xs))
      (rw (column_total c) at (no_more (weight_of c) 683 (divisor_of c) s 1000000 a xs (on_grid a s xs fine).step_low (within a s xs fine)))

  millilux_full : (a s n : ℕ) → grid_check a s n ≡ Fine → millilux c a s (replicate n 1000000) ≡ greatest
  millilux_full a s n fine =
      rw (millilux_worked c s (weighed c a s (replicate n 1000000)))
      (rw (column_total c) at (nearest_constant (weight_of c) 683 (divisor_of c) s 1000000 a n (accepted a s n fine)))

-- a light at the limit at every sample
full_accepted : (a s n : ℕ) → grid_check a s n ≡ Fine → light_check a s (replicate n 1000000) ≡ Fine
full_accepted a s n = light_accepted a s n 1000000 (le_refl 1000000)

-- one value, or three, each at most another
one : {n m : ℕ} → n ≤ m → (i : ℕ) → get_or (n ∷ []) i 0 ≤ get_or (m ∷ []) i 0
one h zero = h
one h (suc i) = zero-le

pub three : {x y z u v w : ℕ} → x ≤ u → y ≤ v → z ≤ w → (i : ℕ) → get_or (x ∷ y ∷ z ∷ []) i 0 ≤ get_or (u ∷ v ∷ w ∷ []) i 0
three p q r zero = p
three p q r (suc zero) = q
three p q r (suc (suc i)) = one r i

pub illuminance_range : (c : Curve) → Greatest (λ a s xs. said_reading (illuminance_of c a s xs)) (greatest c ∷ [])
illuminance_range c = record {
  is_given = λ a s xs fine. rw (illuminance_given a s xs fine c);
  at_most = λ a s xs fine. rw (illuminance_given a s xs fine c) (one (millilux_most c a s xs fine));
  attained = λ a s n fine.
      rw (illuminance_given a s (replicate n 1000000) (full_accepted a s n fine) c, millilux_full c a s n fine);
}

pub xyz_range :
    (o : ℕ) (observer : Observer) → observer_of o ≡ Ok observer →
    Greatest (λ a s xs. said_xyz (xyz_of o a s xs))
    (greatest (curves_of observer).x ∷ greatest (curves_of observer).y ∷ greatest (curves_of observer).z ∷ [])
xyz_range o observer sees =
    let x = (curves_of observer).x in
    let y = (curves_of observer).y in
    let z = (curves_of observer).z in
    record {
      is_given = λ a s xs fine. rw (xyz_given a s xs fine o observer sees);
      at_most = λ a s xs fine.
          rw (xyz_given a s xs fine o observer sees)
          (three (millilux_most x a s xs fine) (millilux_most y a s xs fine) (millilux_most z a s xs fine));
      attained = λ a s n fine.
          rw (
            xyz_given a s (replicate n 1000000) (full_accepted a s n fine) o observer sees,
            millilux_full x a s n fine,
            millilux_full y a s n fine,
            millilux_full z a s n fine,
          );
    }

module _ (k : ℕ) where
  -- the sum of a light at the limit, and what it is divided by, both over s
  abbrev full : ℕ
  full = k * (1000000 * table_sum YBar) + (1000 - k) * (1000000 * table_sum VPrime)

  abbrev divisor : ℕ
  divisor = k * divisor_of YBar + (1000 - k) * divisor_of VPrime

  abbrev greatest_at : ℕ
  greatest_at = nearest (683 * full) divisor

  mesopic_most : (a s : ℕ) (xs : List ℕ) → light_check a s xs ≡ Fine → mesopic_millilux k a s xs ≤ greatest_at
  mesopic_most a s xs fine =
      let low = (on_grid a s xs fine).step_low in
      let most = weighed_most a s xs low (within a s xs fine) in
      let sum = rw (mixed_times s k (1000 - k) (1000000 * table_sum YBar) (1000000 * table_sum VPrime)) at
      (mixed_order k (1000 - k) (most YBar) (most VPrime)) in
      let all = rw (mul_left_comm 683 s full) at (mul-le-mul_left 683 sum) in
      rw (mesopic_worked k a s xs, mixed_times s k (1000 - k) (divisor_of YBar) (divisor_of VPrime))
      (nearest_scaled s (683 * mesopic_weighed k a s xs) (683 * full) divisor low all)

  mesopic_full : (a s n : ℕ) → grid_check a s n ≡ Fine → mesopic_millilux k a s (replicate n 1000000) ≡ greatest_at
  mesopic_full a s n fine =
      let on = accepted a s n fine in
      let sum = W_constant a s n 1000000 on.step_low on.some in
      rw (
        mesopic_worked k a s (replicate n 1000000),
        sum (weight_of YBar),
        sum (weight_of VPrime),
        column_total YBar,
        column_total VPrime,
        mixed_times s k (1000 - k) (1000000 * table_sum YBar) (1000000 * table_sum VPrime),
        mixed_times s k (1000 - k) (divisor_of YBar) (divisor_of VPrime),
        mul_left_comm 683 s full,
      )
      (nearest_cancel s (683 * full) divisor on.step_low)

  greatest_is : mesopic_greatest k ≡ greatest_at
  unfolding grid_check
  greatest_is = mesopic_full 360 1 471 refl

  pub mesopic_range : k ≤ 1000 → Greatest (λ a s xs. said_reading (mesopic_of k a s xs)) (mesopic_greatest k ∷ [])
  mesopic_range few =
      let t = le-leb k 1000 few in
      record {
        is_given = λ a s xs fine. rw (mesopic_given a s xs fine k t);
        at_most = λ a s xs fine. rw (mesopic_given a s xs fine k t, greatest_is) (one (mesopic_most a s xs fine));
        attained = λ a s n fine.
            rw (mesopic_given a s (replicate n 1000000) (full_accepted a s n fine) k t, greatest_is, mesopic_full a s n fine);
      }

pub mesopic_0 : mesopic_greatest 0 ≡ 165033523
unfolding nearest
mesopic_0 = greatest_is 0

pub mesopic_any : (k : ℕ) → k ≤ 1000 → mesopic_greatest k ≤ mesopic_greatest 0
mesopic_any k few =
    let less = (nearest_lt (683 * full k) (divisor k) (omega arith) 165033524).1 (omega arith) in
    rw (mesopic_0, greatest_is k) (omega arith)

-- u′ and v′ and the chart's point are dark where x and y are
pub coordinates : (x y z : ℕ) → Coordinates (said_xy (xy_from x y z)) (said_uv (uv_from x y z)) (said_on_chart (chart_from x y z))
coordinates x y z =
    let given = xy_unless_dark x y z in
    record {
      xy_given = given;
      xy_at_most = xy_most x y z;
      uv_given = rw (uv_refused x y z).same_number given;
      uv_at_most = uv_most x y z;
      chart_given = rw (chart_refused x y z).same_number given;
    }

pub xy_range :
    (o a s : ℕ) (xs : List ℕ) → is_observer o ≡ true → light_check a s xs ≡ Fine →
    Coordinates (said_xy (xy_of o a s xs)) (said_uv (uv_of o a s xs)) (said_chart (chart_of o a s xs))
xy_range o a s xs t fine =
    let seen = the_observer o t in
    rw (xy_given a s xs fine o seen.0 seen.1, uv_given a s xs fine o seen.0 seen.1, chart_given a s xs fine o seen.0 seen.1)
    (coordinates _ _ _)

pub figures_range : (a s : ℕ) (xs : List ℕ) → light_check a s xs ≡ Fine → (said_figures (figures_of a s xs)).number ≡ 0
figures_range a s xs fine = rw (figures_given a s xs fine)

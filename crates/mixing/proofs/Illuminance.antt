-- Where the numerator is linear and the divisor fixed, the nearest quotient keeps to half a unit a row, and to the order.
use mathlib.Core.List.{List, [], ◌∷◌, map}
use Prim.Native.Nat.{ℕ, ◌+◌, ◌*◌, ◌≤◌, ◌<◌}
use native.Mathlib.Nat.{le_refl, lt_of_mul-lt-mul_right}
use native.Mathlib.Omega.{arith}
use lib.ListN.{length}
use Rattle.mixing.specs.Nearest.{nearest}
use Rattle.mixing.specs.Sum.{sum_of}
use Rattle.mixing.specs.Mixture.{mixture, Rows, Linear}
use Rattle.mixing.specs.Promises.{Illuminance}
use Rattle.mixing.proofs.Nearest.{le_nearest, nearest_lt}
use Rattle.mixing.proofs.Mixture.{linear_order, linear_zeros, linear_mixture}

module _ (n d : ℕ) (F : List ℕ → ℕ) (lin : Linear n F) (pos : 0 < d) where
  abbrev reading : List ℕ → ℕ
  reading xs = nearest (F xs) d

  -- twice a reading is within one divisor of twice its numerator
  reading_high : (xs : List ℕ) → reading xs * (2 * d) ≤ 2 * F xs + d
  reading_high xs = (le_nearest (F xs) d pos (reading xs)).0 (le_refl (reading xs))

  reading_low : (xs : List ℕ) → 2 * F xs + d < (reading xs + 1) * (2 * d)
  reading_low xs = (nearest_lt (F xs) d pos (reading xs + 1)).0 (omega arith)

  -- and so for the sum of readings, with a divisor a row
  sum_high : (xss : List (List ℕ)) → Rows n xss → sum_of (map reading xss) * (2 * d) ≤ 2 * F (mixture n xss) + length xss * d
  unfolding sum_of mixture
  sum_high [] r = omega arith
  sum_high (xs ∷ xss) r = omega (arith, reading_high xs, sum_high xss r.1, linear_mixture n F lin xs xss r)

  sum_low :
      (xss : List (List ℕ)) → Rows n xss →
      2 * F (mixture n xss) + length xss ≤ sum_of (map reading xss) * (2 * d) + length xss * d
  unfolding sum_of mixture
  sum_low [] r = omega (arith, linear_zeros n F lin)
  sum_low (xs ∷ xss) r = omega (arith, reading_low xs, sum_low xss r.1, linear_mixture n F lin xs xss r)

  -- so twice the mixture's reading and twice the sum of readings differ by at most one a row
  twice :
      (xs : List ℕ) (xss : List (List ℕ)) → Rows n (xs ∷ xss) →
      let all = xs ∷ xss in
      let q = reading (mixture n all) in
      let s = sum_of (map reading all) in
      (2 * q < 2 * s + length all + 1) × (2 * s < 2 * q + length all + 1)
  twice xs xss r =
      let all : List (List ℕ) = xs ∷ xss in (
        lt_of_mul-lt-mul_right d (omega (arith, reading_high (mixture n all), sum_low all r)),
        lt_of_mul-lt-mul_right d (omega (arith, reading_low (mixture n all), sum_high all r)),
      )

  pub illuminance : Illuminance n reading
  illuminance = record {
    many = λ xs xss r. let t = twice xs xss r in record { above = omega arith; below = omega arith };
    order = λ xs ys p q b. (le_nearest (F ys) d pos (reading xs)).1 (omega (arith, reading_high xs, linear_order n F lin xs ys p q b));
  }

-- At k = 0 and at k = 1000 both parts of the mesopic fraction are a thousand times those of one curve's.
use Rattle.std.proofs.Common.{◌≡◌, refl, true, ap, ◌∙◌, sym, Result, Ok, Err, List, ℕ, ◌*◌, nat_le, arith}
use Rattle.std.proofs.Math.Nat.{mul_left_comm}
use lib.Dec.{lit≤}
use Rattle.grid.specs.declared.refusals.Refusal.{Refusal}
use Rattle.grid.specs.Check.{◌>>=◌}
use Rattle.mixing.proofs.Nearest.{nearest_cancel}
use Rattle.tables.specs.declared.Curve.{Curve}
use Rattle.tables.specs.declared.Curve.TheVariants.{YBar, VPrime}
use Rattle.spectrum.specs.Spectrum.{Measured, light_of}
use Rattle.answers.specs.Said.{said_reading}
use Rattle.efficacy.specs.Divisors.{divisor_of}
use Rattle.efficacy.proofs.Worked.{millilux_worked}
use Rattle.readings.specs.Readings.{weighed, millilux, illuminance_of, mesopic_weighed, mesopic_millilux, mesopic_of}
use Rattle.readings.specs.Sums.{mesopic_divisor}
use Rattle.readings.proofs.Worked.{mesopic_worked}
use Rattle.light_promises.proofs.lights.promise_mesopic_ends.Goals as goal

module _ (k : ℕ) (c : Curve) where
  one_curve :
      ((a s : ℕ) (xs : List ℕ) → mesopic_weighed k a s xs ≡ 1000 * weighed c a s xs) → ((s : ℕ) → mesopic_divisor k s ≡ 1000 * (s * divisor_of c)) →
      (a s : ℕ) (xs : List ℕ) → mesopic_millilux k a s xs ≡ millilux c a s xs
  one_curve sum divisor a s xs =
      let w = weighed c a s xs in
      mesopic_worked k a s xs
      ∙ rw (sum a s xs, mul_left_comm 683 1000 w, divisor s, nearest_cancel 1000 (683 * w) (s * divisor_of c) (lit≤ tt))
      (sym (millilux_worked c s w))

  -- refusals and all
  of_one :
      nat_le k 1000 ≡ true → ((a s : ℕ) (xs : List ℕ) → mesopic_millilux k a s xs ≡ millilux c a s xs) → (a s : ℕ) (xs : List ℕ) →
      mesopic_of k a s xs ≡ illuminance_of c a s xs
  unfolding mesopic_of illuminance_of
  of_one setting same a s xs = rw setting (go (light_of a s xs))
    where
      go :
          (light : Result Measured Refusal) →
          ◌≡◌ {A = Result ℕ Refusal} (light >>= (λ l. Ok (mesopic_millilux k l.start l.step l.samples))) (light >>= (λ l. Ok (millilux c l.start l.step l.samples)))
      go (Ok l) = ap Ok (same l.start l.step l.samples)
      go (Err r) = refl

module _ (a s : ℕ) (xs : List ℕ) where
  at_night : mesopic_of 0 a s xs ≡ illuminance_of VPrime a s xs
  at_night = of_one 0 VPrime refl (one_curve 0 VPrime (λ a s xs. omega arith) (λ s. omega arith)) a s xs

  by_day : mesopic_of 1000 a s xs ≡ illuminance_of YBar a s xs
  by_day = of_one 1000 YBar refl (one_curve 1000 YBar (λ a s xs. omega arith) (λ s. omega arith)) a s xs

pub returns : goal.returns
returns c = record { night = λ a s xs. ap said_reading (at_night a s xs); day = λ a s xs. ap said_reading (by_day a s xs) }

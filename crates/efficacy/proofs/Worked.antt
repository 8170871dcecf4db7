-- The peaks that an efficacy counts are 1, so it is 683 · 10^16 over a constant, and 10^16 cancels in every fraction that has one.
use mathlib.Core.Path.{◌≡◌, refl}
use Prim.Native.Nat.{ℕ, ◌+◌, ◌*◌, ◌-◌, ◌^◌, ◌≤◌}
use native.Mathlib.Omega.{arith}
use lib.Dec.{lit≤}
use Rattle.mixing.specs.Nearest.{nearest}
use Rattle.mixing.proofs.Nearest.{nearest_cancel}
use Rattle.tables.specs.declared.Curve.{Curve}
use Rattle.tables.specs.declared.Curve.TheVariants.{YBar, VPrime}
use Rattle.tables.specs.Tables.{table}
use Rattle.tables.proofs.Each.{each, each_least, each_most}
use Rattle.efficacy.specs.Efficacy.{at_reference, efficacy_of, in_millilux, mesopic_bracket}
use Rattle.efficacy.specs.Divisors.{divisor_of}

efficacy_is : (c : Curve) → efficacy_of c ≡ record { over = 683 * 10 ^ 16; under = divisor_of c }
unfolding at_reference table
efficacy_is = each efficacy_of (λ c. record { over = 683 * 10 ^ 16; under = divisor_of c }) refl

-- the constants lie between 4 · 10^15 and 10^16
pub divisor_bounds : (c : Curve) → (4000000000000000 ≤ divisor_of c) × (divisor_of c ≤ 10 ^ 16)
divisor_bounds c = (each_least divisor_of 4000000000000000 refl c, each_most divisor_of (10 ^ 16) refl c)

pub millilux_worked : (c : Curve) (s w : ℕ) → in_millilux c s w ≡ nearest (683 * w) (s * divisor_of c)
millilux_worked c s w =
    rw (efficacy_is c, over w, under s (divisor_of c)) (nearest_cancel (10 ^ 16) (683 * w) (s * divisor_of c) (lit≤ tt))
  where
    over : (w : ℕ) → 683 * 10 ^ 16 * w ≡ 10 ^ 16 * (683 * w)
    over w = omega arith

    under : (s d : ℕ) → s * 10 ^ 16 * d ≡ 10 ^ 16 * (s * d)
    under s d = omega arith

pub bracket_is : (k : ℕ) → mesopic_bracket k ≡ 1000 * (k * divisor_of YBar + (1000 - k) * divisor_of VPrime)
unfolding at_reference table
bracket_is k = refl

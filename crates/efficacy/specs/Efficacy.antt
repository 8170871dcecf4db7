-- The efficacy of each curve, such that it is 683 at the reference, 555.017 nm in air, where light has 540 THz; and what a sum is
-- in millilux by it.
use Rattle.std.specs.Prelude.{ℕ, ◌+◌, ◌*◌, ◌-◌, ◌^◌}
use Rattle.mixing.specs.Nearest.{nearest}
use Rattle.tables.specs.declared.Curve.{Curve}
use Rattle.tables.specs.declared.Curve.TheVariants.{XBar, YBar, ZBar, XBar10, YBar10, ZBar10, VPrime, VF, VF10}
use Rattle.tables.specs.Curves.{weight_of}

-- the table value of a curve at w nm, at 10^13 to one
abbrev value_at : Curve → ℕ → ℕ
value_at c w = weight_of c (w - 360)

-- the value of a curve at 555.017 nm, by straight line between 555 and 556, at 10^16 to one
unfoldable pub at_reference : Curve → ℕ
at_reference c = 983 * value_at c 555 + 17 * value_at c 556

-- over / under
pub record Efficacy : Type 0 where
  pub over : ℕ
  pub under : ℕ

-- 683 times the table value of a curve at its peak, divided by its value at 555.017 nm, both at 10^16 to one
abbrev of_peak : Curve → ℕ → Efficacy
of_peak c peak = record { over = 683 * (1000 * value_at c peak); under = at_reference c }

-- 683, divided by the value of a curve at 555.017 nm, at 10^16 to one: no peak comes into it
abbrev of_reference : Curve → Efficacy
of_reference c = record { over = 683 * 10 ^ 16; under = at_reference c }

-- V has its peak at 555 nm, V10 at 557 and V′ at 507; X, Y, Z of an observer take the efficacy of its V; the
-- cone-fundamental curves have no peak factor
abbrev pub efficacy_of : Curve → Efficacy
efficacy_of XBar = of_peak YBar 555
efficacy_of YBar = of_peak YBar 555
efficacy_of ZBar = of_peak YBar 555
efficacy_of XBar10 = of_peak YBar10 557
efficacy_of YBar10 = of_peak YBar10 557
efficacy_of ZBar10 = of_peak YBar10 557
efficacy_of VPrime = of_peak VPrime 507
efficacy_of VF = of_reference VF
efficacy_of VF10 = of_reference VF10

-- a sum w at step s in millilux: the nearest of efficacy · w / (s · 10^16), where the efficacy is a fraction itself
abbrev pub in_millilux : Curve → ℕ → ℕ → ℕ
in_millilux c s w = nearest ((efficacy_of c).over * w) (s * 10 ^ 16 * (efficacy_of c).under)

-- the mesopic bracket: 1000 times the sum of k times V and (1000 - k) times V′, both at 555.017 nm, at 10^16 to one
abbrev pub mesopic_bracket : ℕ → ℕ
mesopic_bracket k = 1000 * (k * at_reference YBar + (1000 - k) * at_reference VPrime)

-- What the code divides by: no promise to a caller rests on the reading of this.
use Rattle.std.specs.Prelude.{ℕ}
use Rattle.tables.specs.declared.Curve.{Curve}
use Rattle.tables.specs.declared.Curve.TheVariants.{XBar, YBar, ZBar, XBar10, YBar10, ZBar10, VPrime, VF, VF10}

-- V, V10, V′, V_F and V_F,10 at 555.017 nm, at 10^16 to one
abbrev v_reference : ℕ
v_reference = 9999975639000000

abbrev v10_reference : ℕ
v10_reference = 9991212200000000

abbrev v_prime_reference : ℕ
v_prime_reference = 4017348000000000

abbrev v_f_reference : ℕ
v_f_reference = 9994698474000000

abbrev v_f10_reference : ℕ
v_f10_reference = 9997803305000000

-- 683 times the sum of a curve is divided by s times this
abbrev pub divisor_of : Curve → ℕ
divisor_of XBar = v_reference
divisor_of YBar = v_reference
divisor_of ZBar = v_reference
divisor_of XBar10 = v10_reference
divisor_of YBar10 = v10_reference
divisor_of ZBar10 = v10_reference
divisor_of VPrime = v_prime_reference
divisor_of VF = v_f_reference
divisor_of VF10 = v_f10_reference

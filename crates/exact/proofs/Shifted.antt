-- The quotient of what a shift leaves of two numbers.
use Rattle.std.proofs.Common.{ℕ, ◌+◌, ◌*◌, ◌-◌, ◌/◌, ◌^◌, ◌≤◌, ◌<◌, arith, div-lt_iff_lt-mul}
use Rattle.std.specs.Int.Count.{count_leading_zeros}
use Rattle.std.proofs.lemmas.Nat.{leading_length, pow-add, pow_pos, mul-le}
use Rattle.std.proofs.Math.Nat.{pow-le-pow_right, div-mul-le_self, lt-div-mul-add, mul_assoc, le_refl}

-- what is left of the number has 63 bits, and what is left of one that is no larger
module _ (n : ℕ) (fits : n < 2 ^ 128) where
  shift : ℕ
  shift = 65 - count_leading_zeros 128 n

  bits : n < 2 ^ 63 * 2 ^ shift
  unfolding shift
  bits =
      let found = leading_length 128 n fits in
      let enough : found.0 ≤ 63 + shift = omega (arith, found.1) in
      omega (arith, found.2, pow-le-pow_right {n = 2} (omega arith) enough, pow-add 2 63 shift)

  pub shifted_below : n / 2 ^ (65 - count_leading_zeros 128 n) < 2 ^ 63
  unfolding shift
  shifted_below = (div-lt_iff_lt-mul (pow_pos shift)).1 bits

  pub shifted_less : (d : ℕ) → d ≤ n → (d - 1) / 2 ^ (65 - count_leading_zeros 128 n) < 2 ^ 63
  unfolding shift
  shifted_less d less = (div-lt_iff_lt-mul (pow_pos shift)).1 (omega (arith, bits))

-- what is left of the divisor is rounded up, so the quotient is never too large
pub never_more : (n d p : ℕ) → 0 < d → 0 < p → n / p / ((d - 1) / p + 1) * d ≤ n
never_more n d p some pos =
    let c = (d - 1) / p + 1 in
    let q = n / p / c in
    let covers : d ≤ c * p = omega (arith, lt-div-mul-add {a = d - 1} {b = p} pos) in
    omega (arith, mul-le q d q (c * p) (le_refl q) covers, mul_assoc q c p, mul-le (q * c) p (n / p) p (div-mul-le_self (n / p) c) (le_refl p), div-mul-le_self n p)

-- A nearest quotient by the whole one and its rest.
use Rattle.std.proofs.Common.{◌≡◌, ℕ, ◌+◌, ◌*◌, ◌-◌, ◌/◌, ◌≤◌, ◌<◌, arith, sym}
use Rattle.std.proofs.lemmas.Nat.{div-mul-add, mul-le}
use Rattle.std.proofs.Math.Nat.{mul_left_comm, lt-div-mul-add, add-mul, le_refl}
use Rattle.mixing.specs.Nearest.{nearest}

-- with a rest below the divisor: below half of it the quotient stays, and from half of it on it is one more
module _ (q rest n d : ℕ) (whole : q * d + rest ≡ n) (below : rest < d) where
  twice : q * (2 * d) ≡ 2 * (q * d)
  twice = mul_left_comm q 2 d

  pub stays : rest < d - rest → q ≡ nearest n d
  unfolding nearest
  stays low =
      let same : 2 * n + d ≡ q * (2 * d) + (2 * rest + d) = omega (arith, twice, whole) in
      rw same (sym (div-mul-add q (2 * d) (2 * rest + d) (omega arith)))

  pub goes_up : d - rest ≤ rest → q + 1 ≡ nearest n d
  unfolding nearest
  goes_up high =
      let same : 2 * n + d ≡ (q + 1) * (2 * d) + (2 * rest + d - 2 * d) = omega (arith, twice, whole, add-mul q 1 (2 * d)) in
      rw same (sym (div-mul-add (q + 1) (2 * d) (2 * rest + d - 2 * d) (omega arith)))

-- where the nearest quotient has 32 bits, the whole one has
pub in_range : (n d : ℕ) → 0 < d → nearest n d ≤ 4294967295 → n < d * 4294967296
unfolding nearest
in_range n d some most = omega (arith, lt-div-mul-add {a = 2 * n + d} {b = 2 * d} (omega arith), mul-le ((2 * n + d) / (2 * d)) (2 * d) 4294967295 (2 * d) most (le_refl (2 * d)))

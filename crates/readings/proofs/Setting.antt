-- Laws of k parts of one number and n of another, as the mesopic sum and its divisor are mixed.
use Rattle.std.proofs.Common.{◌≡◌, ℕ, ◌+◌, ◌*◌, ◌-◌, ◌≤◌, ◌∙◌, sym, ap, arith}
use Rattle.std.proofs.Math.Nat.{add-mul, mul-add, mul_left_comm, mul-le-mul_left, add-le-add}

-- a factor of both is one of the whole
pub mixed_times : (s k n p q : ℕ) → k * (s * p) + n * (s * q) ≡ s * (k * p + n * q)
mixed_times s k n p q = rw (mul_left_comm k s p, mul_left_comm n s q) (sym (mul-add s (k * p) (n * q)))

-- more of either is no less
pub mixed_order : (k n : ℕ) {p q u v : ℕ} → p ≤ u → q ≤ v → k * p + n * q ≤ k * u + n * v
mixed_order k n h i = add-le-add (mul-le-mul_left k h) (mul-le-mul_left n i)

-- of the same number, they are a thousand
pub mixed_same : (k m : ℕ) → k ≤ 1000 → k * m + (1000 - k) * m ≡ 1000 * m
mixed_same k m few = sym (add-mul k (1000 - k) m) ∙ ap (λ (x : ℕ). x * m) (omega arith)

-- of numbers that are at most another, at most a thousand of that
pub mixed_most : (k p q m : ℕ) → k ≤ 1000 → p ≤ m → q ≤ m → k * p + (1000 - k) * q ≤ 1000 * m
mixed_most k p q m few h i = rw (mixed_same k m few) at (mixed_order k (1000 - k) h i)

-- Laws of the nearest whole number: it is compared by products, and needs no doubling.
use mathlib.Core.Path.{◌≡◌, ◌∙◌, sym, ap}
use mathlib.Core.Logic.{◌↔◌}
use Prim.Native.Nat.{ℕ, zero, suc, ◌+◌, ◌*◌, ◌/◌, ◌≤◌, ◌<◌, zero-le}
use native.Mathlib.Nat.{le_refl, le-div_iff_mul-le, div-lt_iff_lt-mul, div-div-eq-div-mul, div-eq_of_eq-mul_left, mul-add-div, mul-div-mul_left, div-zero}
use native.Mathlib.Omega.{arith}
use Rattle.mixing.specs.Nearest.{nearest}

module _ (n d : ℕ) (pos : 0 < d) where
  double : 0 < 2 * d
  double = omega arith

  -- q is at most the nearest of n / d exactly if q · 2d is at most 2n + d
  pub le_nearest : (q : ℕ) → (q ≤ nearest n d) ↔ (q * (2 * d) ≤ 2 * n + d)
  unfolding nearest
  le_nearest q = le-div_iff_mul-le double

  pub nearest_lt : (q : ℕ) → (nearest n d < q) ↔ (2 * n + d < q * (2 * d))
  unfolding nearest
  nearest_lt q = div-lt_iff_lt-mul double

-- half the divisor is added, and the quotient rounded down
pub nearest_half : (n d : ℕ) → nearest n d ≡ (n + d / 2) / d
unfolding nearest
nearest_half n d =
    sym (div-div-eq-div-mul (2 * n + d) 2 d) ∙ ap (λ (x : ℕ). x / d) (mul-add-div (omega arith) n d)

pub halves_up : (n d : ℕ) → 0 < d → nearest ((2 * n + 1) * d) (2 * d) ≡ n + 1
unfolding nearest
halves_up n d pos =
    let double : 0 < 2 * (2 * d) = omega arith in
    div-eq_of_eq-mul_left double (omega arith)

-- n / 0 counts as 0
nearest_zero : (n : ℕ) → nearest n 0 ≡ 0
unfolding nearest
nearest_zero n = div-zero (2 * n + 0)

-- the nearest of at most c times d, over d, is at most c
pub nearest_bound : (c n d : ℕ) → n ≤ c * d → nearest n d ≤ c
nearest_bound c n zero h = rw nearest_zero zero-le
nearest_bound c n (suc d) h =
    let pos : 0 < suc d = omega arith in
    let less : nearest n (suc d) < c + 1 = (nearest_lt n (suc d) pos (c + 1)).1 (omega arith) in
    omega arith

-- the nearest of a whole number is that number
pub nearest_whole : (q d : ℕ) → 0 < d → nearest (q * d) d ≡ q
nearest_whole q d pos =
    let most = nearest_bound q (q * d) d (le_refl (q * d)) in
    let least = (le_nearest (q * d) d pos q).1 (omega arith) in
    omega arith

-- more over the same is no less
nearest_mono : (n m d : ℕ) → n ≤ m → nearest n d ≤ nearest m d
nearest_mono n m zero h = rw (nearest_zero n, nearest_zero m) zero-le
nearest_mono n m (suc d) h =
    let pos : 0 < suc d = omega arith in
    let low = (le_nearest n (suc d) pos (nearest n (suc d))).0 (le_refl (nearest n (suc d))) in
    (le_nearest m (suc d) pos (nearest n (suc d))).1 (omega arith)

-- a factor of both cancels
pub nearest_cancel : (s m d : ℕ) → 0 < s → nearest (s * m) (s * d) ≡ nearest m d
unfolding nearest
nearest_cancel s m d pos =
    let up : 2 * (s * m) + s * d ≡ s * (2 * m + d) = omega arith in
    let down : 2 * (s * d) ≡ s * (2 * d) = omega arith in
    rw (up, down) (mul-div-mul_left (2 * m + d) (2 * d) pos)

-- at most s times m, over s times d, is at most m over d
pub nearest_scaled : (s n m d : ℕ) → 0 < s → n ≤ s * m → nearest n (s * d) ≤ nearest m d
nearest_scaled s n m d pos h = rw (sym (nearest_cancel s m d pos)) (nearest_mono n (s * m) (s * d) h)

-- nothing over anything is nothing
pub nearest_none : (d : ℕ) → nearest 0 d ≡ 0
nearest_none d = let h = nearest_bound 0 0 d zero-le in omega arith

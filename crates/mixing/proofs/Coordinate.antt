-- Where numerator and divisor are linear, the nearest quotient of a mixture lies between those of its parts that are not dark.
use mathlib.Core.Path.{◌≡◌, ap}
use mathlib.Core.List.{List, [], ◌∷◌}
use Prim.Native.Nat.{ℕ, zero, suc, ◌+◌, ◌*◌, ◌≤◌, ◌<◌}
use native.Mathlib.Omega.{arith}
use lib.ListN.{replicate}
use Rattle.mixing.specs.Nearest.{nearest}
use Rattle.mixing.specs.Mixture.{mixture, Each, Rows, Linear}
use Rattle.mixing.specs.Promises.{Coordinate}
use Rattle.mixing.proofs.Nearest.{le_nearest, nearest_lt}
use Rattle.mixing.proofs.Mixture.{linear_zeros, linear_mixture}

-- a is at most the nearest of n / d, as products say it, and so where d is 0
low : (a n d : ℕ) → (0 < d → a ≤ nearest n d) → a * (2 * d) ≤ 2 * n + d
low a n zero h = omega arith
low a n (suc d) h = (le_nearest n (suc d) (omega arith) a).0 (h (omega arith))

-- the nearest of n / d is at most b, as products say it, unless d and n are 0
High : (b n d : ℕ) → Type 0
High b n d = 0 < d → 2 * n + d < (b + 1) * (2 * d)

high : (b n d : ℕ) → (0 < d → nearest n d ≤ b) → High b n d
unfolding High
high b n d h pos = let l : nearest n d ≤ b = h pos in (nearest_lt n d pos (b + 1)).0 (omega arith)

high_add :
    (b n d m e : ℕ) → (d ≡ 0 → n ≡ 0) → (e ≡ 0 → m ≡ 0) → High b n d → High b m e → High b (n + m) (d + e)
unfolding High
high_add b n zero m zero p q f g pos = absurd (omega arith)
high_add b n zero m (suc e) p q f g pos = omega (arith, p (omega arith), g (omega arith))
high_add b n (suc d) m zero p q f g pos = omega (arith, q (omega arith), f (omega arith))
high_add b n (suc d) m (suc e) p q f g pos = omega (arith, f (omega arith), g (omega arith))

module _ (n : ℕ) (N D : List ℕ → ℕ) (num : Linear n N) (den : Linear n D) (dark : (xs : List ℕ) → D xs ≡ 0 → N xs ≡ 0) where
  abbrev coordinate : List ℕ → ℕ
  coordinate xs = nearest (N xs) (D xs)

  sum_low :
      (a : ℕ) (xss : List (List ℕ)) → Rows n xss → Each (λ xs. 0 < D xs → a ≤ coordinate xs) xss →
      a * (2 * D (mixture n xss)) ≤ 2 * N (mixture n xss) + D (mixture n xss)
  unfolding mixture
  sum_low a [] r h = let z : D (replicate n 0) ≡ 0 = linear_zeros n D den in low a (N (replicate n 0)) (D (replicate n 0)) (λ p. absurd (omega arith))
  sum_low a (xs ∷ xss) r h =
      let f = linear_mixture n D den xs xss r in
      let g = ap (λ (d : ℕ). a * (2 * d)) f in
      omega (arith, low a (N xs) (D xs) h.0, sum_low a xss r.1 h.1, linear_mixture n N num xs xss r)

  sum_high :
      (b : ℕ) (xss : List (List ℕ)) → Rows n xss → Each (λ xs. 0 < D xs → coordinate xs ≤ b) xss →
      High b (N (mixture n xss)) (D (mixture n xss))
  unfolding mixture
  sum_high b [] r h = let z : D (replicate n 0) ≡ 0 = linear_zeros n D den in high b (N (replicate n 0)) (D (replicate n 0)) (λ p. absurd (omega arith))
  sum_high b (xs ∷ xss) r h =
      let rest : List ℕ = mixture n xss in
      rw (linear_mixture n N num xs xss r, linear_mixture n D den xs xss r)
      (high_add b (N xs) (D xs) (N rest) (D rest) (dark xs) (dark rest) (high b (N xs) (D xs) h.0) (sum_high b xss r.1 h.1))

  least :
      (a : ℕ) (xss : List (List ℕ)) → Rows n xss → Each (λ xs. 0 < D xs → a ≤ coordinate xs) xss →
      0 < D (mixture n xss) → a ≤ coordinate (mixture n xss)
  least a xss r h pos = (le_nearest (N (mixture n xss)) (D (mixture n xss)) pos a).1 (sum_low a xss r h)

  greatest :
      (b : ℕ) (xss : List (List ℕ)) → Rows n xss → Each (λ xs. 0 < D xs → coordinate xs ≤ b) xss →
      0 < D (mixture n xss) → coordinate (mixture n xss) ≤ b
  unfolding High
  greatest b xss r h pos =
      let l : coordinate (mixture n xss) < b + 1 =
      (nearest_lt (N (mixture n xss)) (D (mixture n xss)) pos (b + 1)).1 (sum_high b xss r h pos) in
      omega arith

  pub between : Coordinate n D coordinate
  between = record { least = least; greatest = greatest }

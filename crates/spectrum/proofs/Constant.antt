-- A row that has the same sample everywhere has the same T everywhere, s times that sample, at its ends too.
use mathlib.Core.Path.{◌≡◌, refl, ◌∙◌, sym, ap}
use mathlib.Core.Bool.{Bool, true, false}
use Prim.Native.Nat.{ℕ, zero, suc, ◌+◌, ◌*◌, ◌-◌, ◌/◌, ◌%◌, ◌≤◌, ◌<◌}
use native.Mathlib.Nat.{add-mul, div-add-mod, lt_of_mul-lt-mul_left, mod-lt, mul_assoc}
use native.Mathlib.Omega.{arith}
use borrow.Author.Tests.{leb-true, leb-false}
use lib.ListN.{length, get_or, replicate, length-replicate, get_or-replicate}
use lib.Dec.{leb}
use Rattle.grid.specs.Check.{last_of}
use Rattle.mixing.specs.Sum.{total, weighted}
use Rattle.mixing.proofs.Sum.{weighted_ext, weighted_swap, total_mul}
use Rattle.spectrum.specs.Line.{line_at, T, W}
use Rattle.spectrum.proofs.EndRule.{end_constant}
use Rattle.spectrum.proofs.Measured.{T_measured, T_below, T_above}

module _ (a s n r : ℕ) (pos : 0 < s) (some : 0 < n) where
  line_constant : (e : ℕ) → e ≤ s * (n - 1) → line_at s (replicate n r) e ≡ s * r
  unfolding line_at
  line_constant e h =
      let less : e % s < s = mod-lt e pos in
      let parts : s * (e / s) + e % s ≡ e = div-add-mod e s in
      let all : s * (n - 1 + 1) ≡ s * n = ap (λ (x : ℕ). s * x) (omega arith) in
      let here : get_or (replicate n r) (e / s) 0 ≡ r = get_or-replicate n (e / s) r 0 (lt_of_mul-lt-mul_left s (omega arith)) in
      rw (here, next (e % s) refl) (sym (add-mul (s - e % s) (e % s) r) ∙ ap (λ (x : ℕ). x * r) (omega arith))
    where
      -- d of the next sample, which is in the row where d is not 0
      next : (d : ℕ) → e % s ≡ d → d * get_or (replicate n r) (e / s + 1) 0 ≡ d * r
      next zero p = omega arith
      next (suc d) p =
          let parts : s * (e / s) + e % s ≡ e = div-add-mod e s in
          let below : e / s < n - 1 = lt_of_mul-lt-mul_left s (omega arith) in
          ap (λ (x : ℕ). suc d * x) (get_or-replicate n (e / s + 1) r 0 (omega arith))

  T_constant : (w : ℕ) → T a s (replicate n r) w ≡ s * r
  T_constant w = go (leb a w) (leb w (last_of a s n)) refl refl
    where
      long : length (replicate n r) ≡ n
      long = length-replicate n r

      go : (b c : Bool) → leb a w ≡ b → leb w (last_of a s n) ≡ c → T a s (replicate n r) w ≡ s * r
      go false c p q = T_below a s (replicate n r) w (leb-false a w p) ∙ end_constant a s n r w some
      go true false p q =
          T_above a s (replicate n r) w (rw long (leb-false w (last_of a s n) q)) ∙ end_constant a s n r w some
      go true true p q =
          let low : a ≤ w = leb-true a w p in
          let high : w ≤ last_of a s n = leb-true w (last_of a s n) q in
          T_measured a s (replicate n r) w low (rw long high) ∙ line_constant (w - a) (omega arith)

  -- s is a factor of its weighted sum, for any weights
  pub W_constant : (v : ℕ → ℕ) → W v a s (replicate n r) ≡ s * (r * total 471 v)
  unfolding W weighted
  W_constant v =
      weighted_ext 471 v (λ k. T a s (replicate n r) (360 + k)) (λ k. s * r) (λ k h. T_constant (360 + k))
      ∙ weighted_swap 471 v (λ k. s * r)
      ∙ total_mul (s * r) 471 v
      ∙ mul_assoc s r (total 471 v)

-- Laws of the end rule, and the only ones that open it: its two values and its bound, that it is linear in the row and the same
-- from a sample in the middle of the row on, and what it is of a constant row, so 0 of a zero row.
use mathlib.Core.Path.{◌≡◌, ◌∙◌, sym, ap}
use mathlib.Core.Bool.{Bool, true, false, cond}
use mathlib.Core.List.{List}
use Prim.Native.Nat.{ℕ, ◌+◌, ◌*◌, ◌-◌, ◌≤◌, ◌<◌}
use native.Mathlib.Nat.{mul-add, mul-le-mul_left}
use native.Mathlib.Omega.{arith}
use borrow.Author.Tests.{lt-ltb, le-ltb}
use lib.ListN.{length, get_or, drop, replicate, length-drop, length-replicate, get_or-replicate}
use lib.Seq.{get_or-drop}
use lib.Dec.{ltb}
use Rattle.grid.specs.Check.{Within}
use Rattle.mixing.specs.Mixture.{Linear}
use Rattle.mixing.proofs.Mixture.{length_mix, get_d_mix}
use Rattle.spectrum.specs.Line.{end_rule}

module _ (a s : ℕ) (xs : List ℕ) where
  pub first_carried : (w : ℕ) → w < a → end_rule a s xs w ≡ s * get_or xs 0 0
  unfolding end_rule
  first_carried w h = rw (lt-ltb w a h)

  pub last_carried : (w : ℕ) → a ≤ w → end_rule a s xs w ≡ s * get_or xs (length xs - 1) 0
  unfolding end_rule
  last_carried w h = rw (le-ltb w a h)

  pub end_bound : (limit w : ℕ) → Within limit xs → end_rule a s xs w ≤ s * limit
  unfolding end_rule
  end_bound limit w within = mul-le-mul_left s (within _)

-- counted from sample j on, what is carried up is the same
pub end_from :
    (a s : ℕ) (xs : List ℕ) (j w : ℕ) → j < length xs → a + s * j ≤ w → end_rule a s xs w ≡ end_rule (a + s * j) s (drop j xs) w
end_from a s xs j w h l =
    let long : length (drop j xs) ≡ length xs - j = length-drop j xs in
    let last : length xs - 1 ≡ j + (length (drop j xs) - 1) = omega arith in
    last_carried a s xs w (omega arith)
    ∙ rw (last, sym (get_or-drop j xs (length (drop j xs) - 1) 0)) (sym (last_carried (a + s * j) s (drop j xs) w l))

pub end_linear : (n a s w : ℕ) → Linear n (λ xs. end_rule a s xs w)
unfolding end_rule
end_linear n a s w = record {
  adds = λ xs ys p q.
      rw (length_mix n xs ys p q, p, q, get_d_mix (cond (ltb w a) 0 (n - 1)) xs ys (p ∙ sym q)) (mul-add s _ _);
}

pub end_constant : (a s n r w : ℕ) → 0 < n → end_rule a s (replicate n r) w ≡ s * r
unfolding end_rule
end_constant a s n r w some = rw (length-replicate n r) (ap (λ (x : ℕ). s * x) (get_or-replicate n _ r 0 (in_row (ltb w a))))
  where
    in_row : (b : Bool) → cond b 0 (n - 1) < n
    in_row true = some
    in_row false = omega arith

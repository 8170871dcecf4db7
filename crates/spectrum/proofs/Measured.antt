-- Laws of T: on the line, outside the measured range, and from a sample in the middle of the row on.
use mathlib.Core.Path.{◌≡◌, refl, ◌∙◌, sym, ap}
use mathlib.Core.Bool.{Bool, true, false, cond, and-false}
use mathlib.Core.List.{List}
use Prim.Native.Nat.{ℕ, ◌+◌, ◌*◌, ◌-◌, ◌/◌, ◌%◌, ◌≤◌, ◌<◌}
use native.Mathlib.Nat.{mul-add-div, mul-add-mod_self_left, div-eq_of_lt, mod-lt, mod-eq_of_lt, add-zero, add_assoc, sub-zero, mul-le-mul_left}
use native.Mathlib.Omega.{arith}
use borrow.Author.Tests.{le-leb, lt-leb, leb-true, leb-false}
use lib.ListN.{length, get_or, drop, length-drop}
use lib.Seq.{get_or-drop}
use lib.Dec.{leb}
use Rattle.grid.specs.Check.{last_of, Within}
use Rattle.mixing.specs.Mixture.{mix, Linear}
use Rattle.mixing.proofs.Mixture.{get_d_mix, length_mix, linear_cond, linear_weighted}
use Rattle.spectrum.specs.Line.{line_at, is_measured, end_rule, T, W}
use Rattle.spectrum.proofs.EndRule.{last_carried, end_bound, end_from, end_linear}

-- d nanometres above sample i
pub line_at_lem : (s : ℕ) (xs : List ℕ) (i d : ℕ) → d < s → line_at s xs (s * i + d) ≡ (s - d) * get_or xs i 0 + d * get_or xs (i + 1) 0
unfolding line_at
line_at_lem s xs i d h =
    let pos : 0 < s = omega arith in
    let q : (s * i + d) / s ≡ i = mul-add-div pos i d ∙ (ap (λ (x : ℕ). i + x) (div-eq_of_lt h) ∙ add-zero i) in
    let r : (s * i + d) % s ≡ d = mul-add-mod_self_left s i d ∙ mod-eq_of_lt h in
    rw (q, r)

-- counted from sample j on, the line is the same
line_from : (s : ℕ) (xs : List ℕ) (j e : ℕ) → 0 < s → line_at s xs (s * j + e) ≡ line_at s (drop j xs) e
unfolding line_at
line_from s xs j e pos =
    let q : (s * j + e) / s ≡ j + e / s = mul-add-div pos j e in
    let r : (s * j + e) % s ≡ e % s = mul-add-mod_self_left s j e in
    rw (q, r, get_or-drop, get_or-drop, add_assoc)

module _ (a s : ℕ) (xs : List ℕ) (w : ℕ) where
  pub T_measured : a ≤ w → w ≤ last_of a s (length xs) → T a s xs w ≡ line_at s xs (w - a)
  unfolding T
  T_measured p q = rw (le-leb a w p, le-leb w (last_of a s (length xs)) q)

  pub T_below : w < a → T a s xs w ≡ end_rule a s xs w
  unfolding T
  T_below p = rw (lt-leb a w p)

  pub T_above : last_of a s (length xs) < w → T a s xs w ≡ end_rule a s xs w
  unfolding T
  T_above p = rw (lt-leb w (last_of a s (length xs)) p, and-false)

  -- at the last sample the line is what is carried from there on
  pub T_from_last : 0 < s → last_of a s (length xs) ≤ w → T a s xs w ≡ end_rule a s xs w
  T_from_last pos h = go (leb w (last_of a s (length xs))) refl
    where
      last : ℕ
      last = length xs - 1

      go : (b : Bool) → leb w (last_of a s (length xs)) ≡ b → T a s xs w ≡ end_rule a s xs w
      go true e =
          let low : w ≤ last_of a s (length xs) = leb-true w (last_of a s (length xs)) e in
          let up : w - a ≡ s * last + 0 = omega arith in
          let none : (s - 0) * get_or xs last 0 + 0 * get_or xs (last + 1) 0 ≡ s * get_or xs last 0 = rw (sub-zero s) (omega arith) in
          T_measured (omega arith) low ∙ ap (line_at s xs) up ∙ line_at_lem s xs last 0 pos ∙ none ∙ sym (last_carried a s xs w (omega arith))
      go false e = T_above (leb-false w (last_of a s (length xs)) e)

-- T of the samples from j on, where w is not below sample j
pub T_from :
    (a s : ℕ) (xs : List ℕ) (j w : ℕ) → 0 < s → j < length xs → a + s * j ≤ w → T a s xs w ≡ T (a + s * j) s (drop j xs) w
unfolding T
T_from a s xs j w pos h l =
    let m : s * (length (drop j xs) - 1 + j) ≡ s * (length xs - 1) = ap (λ (n : ℕ). s * n) (simp length-drop (omega arith)) in
    let e : last_of (a + s * j) s (length (drop j xs)) ≡ last_of a s (length xs) = omega arith in
    let f : line_at s xs (w - a) ≡ line_at s (drop j xs) (w - (a + s * j)) =
    ap (line_at s xs) (omega arith) ∙ line_from s xs j (w - (a + s * j)) pos in
    rw (le-leb a w (omega arith), le-leb (a + s * j) w l, e, f, end_from a s xs j w h l)

module _ (a s limit : ℕ) (xs : List ℕ) (within : Within limit xs) where
  -- T is at most s times the largest sample
  line_bound : (e : ℕ) → 0 < s → line_at s xs e ≤ s * limit
  unfolding line_at
  line_bound e pos =
      let r : e % s < s = mod-lt e pos in
      let x : (s - e % s) * get_or xs (e / s) 0 ≤ (s - e % s) * limit = mul-le-mul_left (s - e % s) (within (e / s)) in
      let y : e % s * get_or xs (e / s + 1) 0 ≤ e % s * limit = mul-le-mul_left (e % s) (within (e / s + 1)) in
      let z : (s - e % s + e % s) * limit ≡ s * limit = ap (λ (n : ℕ). n * limit) (omega arith) in
      omega arith

  pub T_bound : (w : ℕ) → 0 < s → T a s xs w ≤ s * limit
  unfolding T
  T_bound w pos = go (is_measured a s (length xs) w)
    where
      go : (b : Bool) → cond b (line_at s xs (w - a)) (end_rule a s xs w) ≤ s * limit
      go true = line_bound (w - a) pos
      go false = end_bound a s xs limit w within

-- mixed spectra have mixed lines
line_linear : (n s e : ℕ) → Linear n (λ xs. line_at s xs e)
unfolding line_at
line_linear n s e = record {
  adds = λ xs ys p q.
      let i : get_or (mix xs ys) (e / s) 0 ≡ get_or xs (e / s) 0 + get_or ys (e / s) 0 = get_d_mix (e / s) xs ys (p ∙ sym q) in
      let j : get_or (mix xs ys) (e / s + 1) 0 ≡ get_or xs (e / s + 1) 0 + get_or ys (e / s + 1) 0 =
      get_d_mix (e / s + 1) xs ys (p ∙ sym q) in
      rw (i, j) (omega arith);
}

pub T_linear : (n a s w : ℕ) → Linear n (λ xs. T a s xs w)
unfolding T
T_linear n a s w = record {
  adds = λ xs ys p q.
      rw (length_mix n xs ys p q, p, q)
      ((linear_cond n (is_measured a s n w) (λ zs. line_at s zs (w - a)) (λ zs. end_rule a s zs w) (line_linear n s (w - a)) (end_linear n a s w)
      ).adds xs ys p q);
}

-- W is linear in the samples, for any weights
pub W_linear : (n : ℕ) (v : ℕ → ℕ) (a s : ℕ) → Linear n (λ xs. W v a s xs)
unfolding W
W_linear n v a s = linear_weighted n 471 v (λ xs k. T a s xs (360 + k)) (λ k. T_linear n a s (360 + k))

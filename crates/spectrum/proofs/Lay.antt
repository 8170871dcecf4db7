-- Rows that are laid place by place are, in the end, the definition's list.
use mathlib.Core.Path.{◌≡◌, refl, ◌∙◌, sym, ap, ap₂}
use mathlib.Core.List.{List, ◌∷◌}
use mathlib.Core.Bool.{Bool, true, false}
use Prim.Native.Nat.{ℕ, zero, suc, ◌+◌, ◌*◌, ◌-◌, ◌/◌, ◌≤◌, ◌<◌}
use native.Mathlib.Nat.{mul-le-mul_left, div-mul-le_self, lt-div-mul-add, lt_of_mul-lt-mul_left, zero-div, mul-zero, add-zero}
use native.Mathlib.Omega.{arith}
use borrow.Author.Tests.{leb-true, leb-false}
use lib.ListN.{length, get_or, set, drop, length-drop}
use lib.Seq.{ext_get_or}
use lib.Dec.{leb}
use Rattle.grid.specs.Check.{last_of}
use Rattle.grid.specs.Accepted.{OnGrid}
use Rattle.grid.proofs.Filled.{fill_more}
use Rattle.spectrum.specs.Line.{line_at, T}
use Rattle.spectrum.specs.Begin.{Begins}
use Rattle.spectrum.specs.Lay.{listed, row_of, Part, AtEnd, LaidTo}
use Rattle.spectrum.specs.declared.line.Begin.{Begin}
use Rattle.spectrum.proofs.EndRule.{first_carried, last_carried}
use Rattle.spectrum.proofs.Measured.{line_at_lem, T_measured, T_below, T_from_last, T_from}

pub length_listed : (n : ℕ) (f : ℕ → ℕ) → length (listed n f) ≡ n
unfolding listed
length_listed zero f = refl
length_listed (suc n) f = ap suc (length_listed n (λ k. f (suc k)))

pub get_d_listed : (n : ℕ) (f : ℕ → ℕ) (k : ℕ) → k < n → get_or (listed n f) k 0 ≡ f k
unfolding listed
get_d_listed zero f k h = absurd (omega arith)
get_d_listed (suc n) f zero h = refl
get_d_listed (suc n) f (suc k) h = get_d_listed n (λ j. f (suc j)) k (omega arith)

module _ (a s : ℕ) (xs : List ℕ) where
  -- the place that is d nanometres above sample i
  pub walk_at :
      (i d k : ℕ) → a + s * i + d ≡ 360 + k → d < s → 360 + k ≤ last_of a s (length xs) →
      (s - d) * get_or xs i 0 + d * get_or xs (i + 1) 0 ≡ T a s xs (360 + k)
  walk_at i d k e h l =
      let above : 360 + k - a ≡ s * i + d = omega arith in
      sym (T_measured a s xs (360 + k) (omega arith) l ∙ (ap (line_at s xs) above ∙ line_at_lem s xs i d h))

  -- one place more on the line above sample i
  pub walk_more :
      (i d n : ℕ) (row : List ℕ) → length xs ≡ n → Part a s n → i + 1 < n → d < s → 360 ≤ a + s * i + d →
      LaidTo a s xs row (a + s * i + d - 360) →
      LaidTo a s xs (set row (a + s * i + d - 360) ((s - d) * get_or xs i 0 + d * get_or xs (i + 1) 0)) (a + s * i + (d + 1) - 360)
  walk_more i d n row long part inside below low laid =
      let k = a + s * i + d - 360 in
      let up : s * (i + 1) ≤ s * (n - 1) = mul-le-mul_left s (omega arith) in
      let last_high = part.last_high in
      let measured : 360 + k ≤ last_of a s (length xs) = rw long (omega arith) in
      let next : a + s * i + (d + 1) - 360 ≡ k + 1 = omega arith in
      rw next (fill_more 471 _ row k _ laid (omega arith) (walk_at i d k (omega arith) below measured))

  -- below the measured range, and from the last sample on
  pub low_end : (high : ℕ) → high ≤ a - 360 → AtEnd a s xs 0 0 high
  low_end high h q p l = T_below a s xs (360 + q) (omega arith) ∙ first_carried a s xs (360 + q) (omega arith)

  pub high_end : (i low high : ℕ) → i ≡ length xs - 1 → 0 < s → last_of a s (length xs) ≤ 360 + low → AtEnd a s xs i low high
  high_end i low high e pos h q p l =
      rw e (T_from_last a s xs (360 + q) pos (omega arith) ∙ last_carried a s xs (360 + q) (omega arith))

  pub lay_all : (row : List ℕ) → LaidTo a s xs row 471 → row ≡ row_of a s xs
  unfolding row_of
  lay_all row l =
      let long = l.long in
      let f : ℕ → ℕ = λ q. T a s xs (360 + q) in
      ext_get_or 0 row (listed 471 f) (long ∙ sym (length_listed 471 f))
      (λ q p. let h : q < 471 = omega arith in l.filled q h ∙ sym (get_d_listed 471 f q h))

listed_ext : (n : ℕ) (f g : ℕ → ℕ) → ((k : ℕ) → k < n → f k ≡ g k) → listed n f ≡ listed n g
unfolding listed
listed_ext zero f g e = refl
listed_ext (suc n) f g e =
    ap₂ (λ (x : ℕ) (xs : List ℕ). x ∷ xs) (e 0 (omega arith))
    (listed_ext n (λ k. f (suc k)) (λ k. g (suc k)) (λ k h. e (suc k) (omega arith)))

module _ (a s : ℕ) (xs : List ℕ) (on : OnGrid a s (length xs)) where
  -- the sample at or just below 360
  abbrev j : ℕ
  j = (360 - a) / s

  steps : (s * j ≤ 360 - a) × (360 - a < s * j + s)
  steps =
      let pos : 0 < s = on.step_low in
      let x : (360 - a) / s * s ≤ 360 - a = div-mul-le_self (360 - a) s in
      let y : 360 - a < (360 - a) / s * s + s = lt-div-mul-add pos in
      omega arith

  pub steps_few : j + 1 < length xs
  steps_few =
      let h = steps in
      let e : s * (length xs - 1 + 1) ≡ s * length xs = ap (λ (n : ℕ). s * n) (let some = on.some in omega arith) in
      let less : s * (j + 1) < s * length xs = omega arith in
      lt_of_mul-lt-mul_left s less

  pub part_of : Part (a + s * j) s (length (drop j xs))
  part_of =
      let h = steps in
      let few = steps_few in
      let m : s * (length (drop j xs) - 1 + j) ≡ s * (length xs - 1) = ap (λ (n : ℕ). s * n) (simp length-drop (omega arith)) in
      let l : length (drop j xs) ≡ length xs - j = length-drop j xs in
      record {
        step_allowed = on.step_allowed;
        step_low = on.step_low;
        step_high = on.step_high;
        near = omega arith;
        start_high = omega arith;
        some = omega arith;
        last_low = omega arith;
        last_high = omega arith;
      }

  -- laid from there on, the row is the same
  pub row_from : row_of (a + s * j) s (drop j xs) ≡ row_of a s xs
  unfolding row_of
  row_from =
      listed_ext 471 (λ k. T (a + s * j) s (drop j xs) (360 + k)) (λ k. T a s xs (360 + k)) (λ k l. go (360 + k) (omega arith) (leb a 360) refl)
    where
      go : (w : ℕ) → 360 ≤ w → (b : Bool) → leb a 360 ≡ b → T (a + s * j) s (drop j xs) w ≡ T a s xs w
      go w p true e =
          let few = steps_few in
          let h = steps in
          let low : a ≤ 360 = leb-true a 360 e in
          sym (T_from a s xs j w on.step_low (omega arith) (omega arith))
      go w p false e =
          let high : 360 < a = leb-false a 360 e in
          let none : 360 - a ≡ 0 = omega arith in
          rw (none, zero-div, mul-zero, add-zero)

  -- a begin that is found is there
  pub row_begun : (b : Begin) → Begins a s b → row_of b.wavelength s (drop b.place xs) ≡ row_of a s xs
  row_begun b is = rw (is.place, is.wavelength) row_from

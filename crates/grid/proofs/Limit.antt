-- Laws of the limit's check: fine exactly where all entries are within it.
use Rattle.std.proofs.Common.{◌≡◌, refl, Bool, true, false, cond, List, [], ◌∷◌, map, ℕ, zero, suc, ◌≤◌, ◌<◌, ◌&&◌, Option, Some, None, Ok, Err, inl, inr, nat_lt, nat_le, ltb, position, length, slice_index, arith, ap, sym, ◌∙◌, zero-le}
use Rattle.std.specs.List.{fold, position_or_len}
use Rattle.std.proofs.lemmas.Bool.Decides.{leb_tells}
use Rattle.std.proofs.lemmas.Grind.{common_steps}
use Rattle.std.proofs.lemmas.List.{get_or_past}
use Rattle.std.proofs.lemmas.List.Sums.{fails_before_first}
use borrow.Author.Tests.{ltb-false, le-ltb}
use Rattle.grid.specs.declared.refusals.Kind.{Kind}
use Rattle.grid.specs.Check.{Check, Fine, ◌>>=◌, require, refusal, refused_at, limit_check, Within}

-- where two answers in turn are fine, both are
pub both_fine : (first second : Check) → (first >>= (λ _. second)) ≡ Fine → (first ≡ Fine) × (second ≡ Fine)
both_fine (Ok _) second e = (refl, e)
both_fine (Err r) second e = absurd (cc)

-- where what is required is fine, the test holds
pub passed : (test : Bool) (kind : Kind) → require test kind ≡ Fine → test ≡ true
passed true kind e = refl
passed false kind e = absurd (cc)

-- past the end of a row there is nothing above the limit
pub within_row : (limit : ℕ) (xs : List ℕ) → ((k : ℕ) → k < length xs → slice_index xs k ≤ limit) → Within limit xs
within_row limit [] h k = zero-le
within_row limit (x ∷ xs) h zero = h 0 (omega arith)
within_row limit (x ∷ xs) h (suc k) = within_row limit xs (λ j l. h (suc j) (omega arith)) k

-- the first that passes, of numbers that stand for others
module _ {A : Type 0} (f : A → ℕ) where
  first_of_map : (p : ℕ → Bool) (xs : List A) → position_or_len p (map f xs) ≡ position_or_len (λ x. p (f x)) xs
  first_of_map p [] = refl
  first_of_map p (x ∷ xs) = rw (first_of_map p xs)

  length_of_map : (xs : List A) → length (map f xs) ≡ length xs
  length_of_map [] = refl
  length_of_map (x ∷ xs) = ap suc (length_of_map xs)

  pub first_above :
      (limit : ℕ) (xs : List A) (numbers : List ℕ) → numbers ≡ map f xs →
      position (λ x. nat_lt limit x) numbers ≡ position (λ x. nat_lt limit (f x)) xs
  first_above limit xs numbers e = rw (e, first_of_map (λ x. nat_lt limit x) xs, length_of_map xs)

  stays_false : (p : A → Bool) (xs : List A) → fold (λ fine x. fine && p x) false xs ≡ false
  stays_false p [] = refl
  stays_false p (x ∷ xs) = stays_false p xs

  at_end :
      (limit : ℕ) (xs : List A) → fold (λ fine x. fine && nat_le (f x) limit) true xs ≡ true →
      position_or_len (λ x. nat_lt limit (f x)) xs ≡ length xs
  at_end limit [] h = refl
  at_end limit (x ∷ xs) h = grind (arith, common_steps, leb_tells, stays_false (λ y. nat_le (f y) limit) xs, at_end limit xs)

  -- a pass with no way out finds as much as a search
  pub none_above :
      (limit : ℕ) (xs : List A) → fold (λ fine x. fine && nat_le (f x) limit) true xs ≡ true →
      position (λ x. nat_lt limit (f x)) xs ≡ None
  none_above limit xs h = let e = at_end limit xs h in grind (arith, common_steps)

module _ (kind : Kind) (limit : ℕ) where
  no_place : (test : Bool) (place : ℕ) → refused_at kind (cond test (Some place) None) ≡ Fine → test ≡ false
  no_place true place e = absurd (cc)
  no_place false place e = refl

  pub within_fine : (xs : List ℕ) → Within limit xs → limit_check kind limit xs ≡ Fine
  unfolding limit_check
  within_fine xs w = rw (none xs w)
    where
      none : (xs : List ℕ) → Within limit xs → position (λ x. nat_lt limit x) xs ≡ None
      none [] w = refl
      none (x ∷ xs) w = rw (le-ltb limit x (w 0)) (let e = none xs (λ k. w (suc k)) in grind (arith, common_steps))

  pub fine_within : (xs : List ℕ) → limit_check kind limit xs ≡ Fine → Within limit xs
  unfolding limit_check
  fine_within xs e =
      let above : ℕ → Bool = λ x. nat_lt limit x in
      let all = ltb-false (position_or_len above xs) (length xs) (no_place (ltb (position_or_len above xs) (length xs)) (position_or_len above xs) e) in
      within_row limit xs (λ k l. ltb-false limit (slice_index xs k) (fails_before_first above xs k 0 (omega arith)))

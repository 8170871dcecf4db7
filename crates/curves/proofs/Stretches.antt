-- Laws of a row's weighted sum by counts, stretch by stretch.
use Rattle.std.proofs.Common.{◌≡◌, refl, subst, sym, true, ℕ, suc, ◌+◌, ◌*◌, ◌-◌, ◌≤◌, ◌<◌, List, [], ◌∷◌, drop, slice_index_or, length, add-one, add-zero, arith, ap, ◌∙◌}
use Rattle.std.proofs.Math.Nat.{le_refl, le_trans, zero-add, mul_comm, mul_left_comm, add-mul, mul-le-mul_left}
use Rattle.std.proofs.lemmas.Bool.Decides.{nat_tests}
use Rattle.std.proofs.lemmas.Grind.{common_steps}
use native.Mathlib.Decide.{le_ind}
use Rattle.std.proofs.Math.Seq.{drop-cons}
use Rattle.std.proofs.lemmas.List.{drop_all}
use borrow.Author.Tests.{lt-ltb, le-ltb, eqb-true}
use Rattle.grid.specs.Check.{Within}
use Rattle.mixing.specs.Sum.{total, weighted, entry_of}
use Rattle.mixing.proofs.Sum.{total_more, total_ext, weighted_bound}
use Rattle.tables.specs.declared.Curve.{Curve}
use Rattle.tables.specs.declared.units.Stretch.{Stretch}
use Rattle.tables.specs.Curves.{weight_of}
use Rattle.tables.specs.Columns.{units}
use Rattle.tables.specs.Units.{unit_at, in_order}
use Rattle.tables.specs.Held.{in_units, value_of}
use Rattle.tables.proofs.Each.{each}
use Rattle.tables.proofs.Held.{weighs, held}
use Rattle.tables.proofs.Sums.{curve_sum}

-- over a stretch of one unit, the sum that is counted in it becomes the sum at full value
module _ (p begin : ℕ) (u f line : ℕ → ℕ) where
  abbrev added : ℕ → ℕ
  added n = weighted n f line - weighted begin f line

  abbrev full : ℕ → ℕ
  full n = weighted n (λ k. u k * f k) line

  more : (n : ℕ) → begin ≤ n → added n * p + full begin ≡ full n → u n ≡ p → added (suc n) * p + full begin ≡ full (suc n)
  unfolding weighted total
  more n l ih is =
      let grows : added (suc n) ≡ added n + f n * line n = (let h = total_more begin n (λ j. f j * line j) l in omega arith) in
      let apart = add-mul (added n) (f n * line n) p in
      let same : u n * f n * line n ≡ f n * line n * p = rw is (turned p (f n) (line n)) in
      rw (grows) (omega arith)
    where
      turned : (x y z : ℕ) → x * y * z ≡ y * z * x
      turned x y z = simp (mul_comm, mul_left_comm)

  onward : (end : ℕ) → begin ≤ end → ((k : ℕ) → begin ≤ k → k < end → u k ≡ p) → added end * p + full begin ≡ full end
  onward end h =
      le_ind (λ n. ((k : ℕ) → begin ≤ k → k < n → u k ≡ p) → added n * p + full begin ≡ full n)
      (λ s. let none : added begin ≡ 0 = omega arith in rw none (omega arith))
      (λ n l ih s. more n l (ih (λ k b e. s k b (omega arith))) (s n l (le_refl (suc n))))
      end h

none : (v line : ℕ → ℕ) → weighted 0 v line ≡ 0
unfolding weighted total
none v line = refl

module _ (f line : ℕ → ℕ) where
  -- what the stretches from a place on add to the sum
  unfoldable pub rest_of : ℕ → List Stretch → ℕ
  rest_of begin [] = 0
  rest_of begin (first ∷ rest) = (weighted first.end f line - weighted begin f line) * first.unit + rest_of first.end rest

  -- one stretch more
  taken :
      (this : Stretch) (rest : List Stretch) (begin sum counted W : ℕ) → counted + weighted begin f line ≡ weighted this.end f line →
      sum + rest_of begin (this ∷ rest) ≡ W → sum + counted * this.unit + rest_of this.end rest ≡ W
  unfolding rest_of
  taken this rest begin sum counted W is so_far =
      let same : weighted this.end f line - weighted begin f line ≡ counted = omega arith in
      let with : sum + (counted * this.unit + rest_of this.end rest) ≡ W = rw same at so_far in
      omega arith

  module _ (ss : List Stretch) (d : Stretch) (i begin : ℕ) (h : i < length ss) where
    abbrev this : Stretch
    this = slice_index_or ss i d

    cut : drop i ss ≡ this ∷ drop (i + 1) ss
    cut = drop-cons ss i d h ∙ ap (λ (n : ℕ). this ∷ drop n ss) (sym (add-one i))

    pub next :
        (sum counted : ℕ) → counted + weighted begin f line ≡ weighted this.end f line → sum + rest_of begin (drop i ss) ≡ rest_of 0 ss →
        sum + counted * this.unit + rest_of this.end (drop (i + 1) ss) ≡ rest_of 0 ss
    next sum counted is so_far =
        taken this (drop (i + 1) ss) begin sum counted (rest_of 0 ss) is (subst (λ (zs : List Stretch). sum + rest_of begin zs ≡ rest_of 0 ss) cut so_far)

    pub next_in_order : in_order begin (drop i ss) ≡ true → in_order this.end (drop (i + 1) ss) ≡ true
    next_in_order order =
        behind this (drop (i + 1) ss) (subst (λ (zs : List Stretch). in_order begin zs ≡ true) cut order)
      where
        behind : (this : Stretch) (rest : List Stretch) → in_order begin (this ∷ rest) ≡ true → in_order this.end rest ≡ true
        behind this rest e = grind (arith, nat_tests, common_steps)

  onto :
      (u : ℕ → ℕ) (ss : List Stretch) (begin : ℕ) → in_order begin ss ≡ true → ((k : ℕ) → begin ≤ k → u k ≡ unit_at ss k) →
      rest_of begin ss + weighted begin (λ k. u k * f k) line ≡ weighted 471 (λ k. u k * f k) line
  unfolding rest_of unit_at
  onto u [] begin order same = let end = eqb-true begin 471 order in rw end (zero-add _)
  onto u (first ∷ rest) begin order same =
      let low : begin ≤ first.end = grind (arith, nat_tests, common_steps) in
      let behind : in_order first.end rest ≡ true = grind (arith, nat_tests, common_steps) in
      let this = onward first.unit begin u f line first.end low (λ k b e. same k b ∙ rw (lt-ltb k first.end e)) in
      let others = onto u rest first.end behind (λ k b. same k (omega arith) ∙ rw (le-ltb k first.end b)) in
      omega (arith, this, others)

  -- all of them make the sum at full value
  pub all_stretches : (ss : List Stretch) → in_order 0 ss ≡ true → rest_of 0 ss ≡ weighted 471 (λ k. unit_at ss k * f k) line
  all_stretches ss order = sym (add-zero (rest_of 0 ss)) ∙ rw (none (λ k. unit_at ss k * f k) line) at (onto (unit_at ss) ss 0 order (λ k b. refl))

-- of a curve's table, and a row
module _ (c : Curve) (row : List ℕ) (ss : List Stretch) (counts : List ℕ) (stretches : ss ≡ units c) (held_in : counts ≡ in_units c) where
  pub four : length ss ≡ 4
  four = rw stretches (each (λ c. length (units c)) (λ c. 4) refl c)

  -- all of them make the curve's sum
  all_of : rest_of (entry_of counts) (entry_of row) 0 ss ≡ weighted 471 (weight_of c) (entry_of row)
  unfolding weighted
  all_of =
      rw (stretches, held_in)
      (all_stretches (entry_of (in_units c)) (entry_of row) (units c) (held c).stretched
      ∙ total_ext 471 (λ k. value_of (units c) (in_units c) k * entry_of row k) (λ k. weight_of c k * entry_of row k)
      (λ k h. ap (λ (x : ℕ). x * entry_of row k) (weighs c k)))

  -- which passes no 75 bits, nor does a part of it
  pub part_of : Within 10000000 row → (sum rest : ℕ) → sum + rest ≡ rest_of (entry_of counts) (entry_of row) 0 ss → sum ≤ 20000000000000000000000
  part_of small sum rest e =
      let most = le_trans (weighted_bound 10000000 471 471 (weight_of c) (entry_of row) small (le_refl 471)) (mul-le-mul_left 10000000 (curve_sum c)) in
      omega (arith, e, all_of, most)

  pub done :
      (i begin sum : ℕ) → 4 ≤ i → sum + rest_of (entry_of counts) (entry_of row) begin (drop i ss) ≡ rest_of (entry_of counts) (entry_of row) 0 ss →
      sum ≡ weighted 471 (weight_of c) (entry_of row)
  unfolding rest_of
  done i begin sum h e =
      let past : length ss ≤ i = rw four h in
      sym (add-zero sum) ∙ rw (drop_all i ss past) at e ∙ all_of

-- The law of mixed light where the divisor is linear too: over any check, an answer that is dark where its divisor is 0 lies, of a
-- mixture, between the least and the greatest of the rows' that are not dark; it is the only one's, and dark where there is none.
use mathlib.Core.Path.{◌≡◌, refl, ◌∙◌, sym, ap₂}
use mathlib.Core.List.{List, [], ◌∷◌, map, nil≢cons, head-eq_of_cons-eq, tail-eq_of_cons-eq}
use Prim.Native.Nat.{ℕ, zero, suc, ◌+◌, ◌*◌, ◌≤◌, ◌<◌}
use native.Mathlib.Omega.{arith}
use lib.ListN.{length}
use Rattle.grid.specs.Check.{Check, Fine}
use Rattle.grid.specs.Said.{Said, value}
use Rattle.mixing.specs.Mixture.{mixture, Each, Rows, Linear}
use Rattle.mixing.proofs.Nearest.{nearest_none}
use Rattle.mixing.proofs.Mixture.{linear_times, linear_zeros, linear_mixture}
use Rattle.mixing.proofs.Coordinate.{between}
use Rattle.tables.specs.Column.{largest}
use Rattle.answers.specs.Worked.{in_hundred_thousandths}
use Rattle.answers.proofs.Values.{said_over, over_given, over_none}
use Rattle.light_promises.specs.Lights.{Between}
use Rattle.light_promises.specs.Strings.{values_at, lit_of, least, Coloured}
use Rattle.light_promises.proofs.Each.{each_at, map_each}
use Rattle.light_promises.proofs.Least.{above_least, below_largest}
use Rattle.light_promises.proofs.Passing.{Passing}
use Rattle.light_promises.proofs.SumAt.{sums_of, sum_at, none_linear, value_at}

-- a sum that is linear, and 0 where the divisor is
abbrev Part : ℕ → (List ℕ → ℕ) → (List ℕ → ℕ) → Type 0
Part n D N = Linear n N × ((xs : List ℕ) → D xs ≡ 0 → N xs ≡ 0)

-- an answer that is, of rows that pass a check, such sums over a linear one
pub record Over (check : List ℕ → Check) (answer : List ℕ → Said) : Type 0 where
  pub parts : List (List ℕ → ℕ)
  pub divisor : List ℕ → ℕ
  pub linear : (n : ℕ) → Linear n divisor
  pub all_parts : (n : ℕ) → Each (λ N. Part n divisor N) parts
  pub is : (xs : List ℕ) → check xs ≡ Fine → answer xs ≡ said_over (sums_of parts xs) (divisor xs)

dark_or_lit : {A : Type 0} (d : ℕ) → (d ≡ 0 → A) → (0 < d → A) → A
dark_or_lit zero f g = f refl
dark_or_lit (suc d) f g = g (omega arith)

module _ (n : ℕ) (D : List ℕ → ℕ) (den : Linear n D) (Ns : List (List ℕ → ℕ)) (all : Each (λ N. Part n D N) Ns) where
  abbrev said : List ℕ → Said
  said xs = said_over (sums_of Ns xs) (D xs)

  -- a row whose parts are another's says what that says
  same_said : (xs ys : List ℕ) → ((N : List ℕ → ℕ) → Part n D N → N xs ≡ N ys) → said xs ≡ said ys
  same_said xs ys h = ap₂ said_over (map_each h Ns all) (h D (den, λ zs e. e))

  -- a dark row is not among those that are lit, and a lit one is
  without : (xs : List ℕ) (rest : List Said) → D xs ≡ 0 → lit_of (said xs ∷ rest) ≡ lit_of rest
  unfolding lit_of
  without xs rest e = rw (e, over_none (sums_of Ns xs))

  with_it : (xs : List ℕ) (rest : List Said) → 0 < D xs → lit_of (said xs ∷ rest) ≡ said xs ∷ lit_of rest
  unfolding lit_of
  with_it xs rest pos = rw (over_given (sums_of Ns xs) (D xs) pos)

  value_is : (i : ℕ) (xs : List ℕ) → 0 < D xs → value (said xs) i ≡ in_hundred_thousandths (sum_at Ns i xs) (D xs)
  value_is i xs pos = rw (over_given (sums_of Ns xs) (D xs) pos) (value_at (λ x. in_hundred_thousandths x (D xs)) (nearest_none (D xs)) Ns xs i)

  -- where one is lit, so is the mixture
  mixture_lit : (xss : List (List ℕ)) → Rows n xss → 0 < length (lit_of (map said xss)) → 0 < D (mixture n xss)
  unfolding lit_of
  mixture_lit [] rows some = absurd (omega arith)
  mixture_lit (xs ∷ xss) rows some =
      let sum = linear_mixture n D den xs xss rows in
      dark_or_lit (D xs) (λ e. omega (arith, sum, mixture_lit xss rows.1 (rw (without xs (map said xss) e) at some)))
      (λ pos. omega (arith, sum))

  -- and where none is, it is not
  mixture_dark : (xss : List (List ℕ)) → Rows n xss → lit_of (map said xss) ≡ [] → D (mixture n xss) ≡ 0
  unfolding mixture
  mixture_dark [] rows none = linear_zeros n D den
  mixture_dark (xs ∷ xss) rows none =
      let sum = linear_mixture n D den xs xss rows in
      dark_or_lit (D xs) (λ e. omega (arith, sum, mixture_dark xss rows.1 (sym (without xs (map said xss) e) ∙ none)))
      (λ pos. absurd (nil≢cons (sym none ∙ with_it xs (map said xss) pos)))

  -- where one alone is lit, the mixture says what it says
  mixture_one :
      (xss : List (List ℕ)) (one : Said) → Rows n xss → lit_of (map said xss) ≡ one ∷ [] → said (mixture n xss) ≡ one
  unfolding lit_of
  mixture_one [] one rows only = absurd (nil≢cons only)
  mixture_one (xs ∷ xss) one rows only =
      let sum : (N : List ℕ → ℕ) → Part n D N → N (mixture n (xs ∷ xss)) ≡ N xs + N (mixture n xss) =
      (λ N part. linear_mixture n N part.0 xs xss rows) in
      dark_or_lit (D xs)
      (λ e.
      same_said (mixture n (xs ∷ xss)) (mixture n xss) (λ N part. omega (arith, sum N part, part.1 xs e))
      ∙ mixture_one xss one rows.1 (sym (without xs (map said xss) e) ∙ only))
      (λ pos.
      let both = sym (with_it xs (map said xss) pos) ∙ only in
      let none = mixture_dark xss rows.1 (tail-eq_of_cons-eq both) in
      same_said (mixture n (xs ∷ xss)) xs (λ N part. omega (arith, sum N part, part.1 (mixture n xss) none))
      ∙ head-eq_of_cons-eq both)

  -- what holds of each value of those that are said to be lit holds of each row's, if it is lit
  each_lit :
      (P : ℕ → Type 0) (i : ℕ) (xss : List (List ℕ)) → Each P (values_at i (lit_of (map said xss))) →
      Each (λ xs. 0 < D xs → P (in_hundred_thousandths (sum_at Ns i xs) (D xs))) xss
  each_lit P i [] h = tt
  each_lit P i (xs ∷ xss) h =
      dark_or_lit (D xs) (λ e. ((λ pos. absurd (omega arith)), each_lit P i xss (rw (without xs (map said xss) e) at h)))
      (λ pos.
      let both = rw (with_it xs (map said xss) pos) at h in
      ((λ _. rw (value_is i xs pos) at both.0), each_lit P i xss both.1))

  mixture_between :
      (xss : List (List ℕ)) → Rows n xss → 0 < D (mixture n xss) → (i : ℕ) →
      let values = values_at i (lit_of (map said xss)) in
      Between (least values) (largest values) (value (said (mixture n xss)) i)
  mixture_between xss rows pos i =
      let values = values_at i (lit_of (map said xss)) in
      let part = each_at (λ N. Part n D N) (none_linear n, λ xs e. refl) Ns all i in
      let law = between n (λ xs. 100000 * sum_at Ns i xs) D (linear_times n 100000 (sum_at Ns i) part.0) den
      (λ xs e. omega (arith, part.1 xs e)) in
      let low = law.least (least values) xss rows (each_lit (λ v. least values ≤ v) i xss (above_least values)) pos in
      let high = law.greatest (largest values) xss rows (each_lit (λ v. v ≤ largest values) i xss (below_largest values)) pos in
      rw (value_is i (mixture n xss) pos) (record { low = omega arith; high = omega arith })

  said_coloured : (xss : List (List ℕ)) → Rows n xss → Coloured (map said xss) (said (mixture n xss))
  said_coloured xss rows = record {
    between = λ some.
        let pos = mixture_lit xss rows some in
        (rw (over_given (sums_of Ns (mixture n xss)) (D (mixture n xss)) pos), mixture_between xss rows pos);
    one_lit = λ one. mixture_one xss one rows;
    all_dark = λ none. rw (mixture_dark xss rows none, over_none (sums_of Ns (mixture n xss)));
  }

pub coloured :
    {check : List ℕ → Check} {answer : List ℕ → Said} → Over check answer → (n : ℕ) (xss : List (List ℕ)) → Passing check n xss →
    Coloured (map answer xss) (answer (mixture n xss))
coloured it n xss all =
    rw (map_each it.is xss all.each, it.is (mixture n xss) all.mixed)
    (said_coloured n it.divisor (it.linear n) it.parts (it.all_parts n) xss all.rows)

-- Coordinates over one divisor: dark where it is 0, else each numerator's nearest. x and y are such, and so are u′ and v′.
use Rattle.std.proofs.Common.{◌≡◌, refl, sym, Bool, true, false, cond, Ok, Err, Result, List, [], ◌∷◌, map, ℕ, zero, suc, ◌+◌, ◌*◌, ◌≤◌, ◌<◌, zero-le, nat_lt, ltb, get_or, arith}
use Rattle.std.proofs.Math.Nat.{le_refl, le_trans, mul-le-mul_left}
use borrow.Author.Tests.{ltb-true, ltb-false, lt-ltb}
use Rattle.grid.specs.declared.refusals.Kind.TheVariants.{Dark}
use Rattle.grid.specs.declared.refusals.Refusal.{Refusal}
use Rattle.grid.specs.Refusals.{number_of}
use Rattle.grid.specs.Check.{◌>>=◌, require, refusal}
use Rattle.grid.specs.Said.{Said, value, given, refused_with, said, RefusedAs}
use Rattle.mixing.proofs.Nearest.{nearest_bound}
use Rattle.answers.specs.declared.Xy.{Xy}
use Rattle.answers.specs.Worked.{in_hundred_thousandths, xy_over, xy_from, uv_divisor, uv_over, uv_from, on_chart, chart_from}
use Rattle.answers.specs.Said.{said_xy, said_uv, said_on_chart}

-- each numerator over the divisor
abbrev each_over : List ℕ → ℕ → List ℕ
each_over ns d = map (λ n. in_hundred_thousandths n d) ns

-- these, or DARK where the divisor is 0
unfoldable pub said_over : List ℕ → ℕ → Said
said_over ns d = cond (nat_lt 0 d) (given (each_over ns d) []) (refused_with (refusal Dark 0))

-- each numerator, in hundred-thousandths, is at most so many divisors
abbrev AtMost : List ℕ → List ℕ → ℕ → Type 0
AtMost [] ts d = Unit {0}
AtMost (n ∷ ns) [] d = ⊥
AtMost (n ∷ ns) (t ∷ ts) d = (100000 * n ≤ t * d) × AtMost ns ts d

each_most : (ns ts : List ℕ) (d : ℕ) → AtMost ns ts d → (i : ℕ) → get_or (each_over ns d) i 0 ≤ get_or ts i 0
each_most [] ts d m i = zero-le
each_most (n ∷ ns) [] d m i = absurd m
each_most (n ∷ ns) (t ∷ ts) d m zero = nearest_bound t (100000 * n) d m.0
each_most (n ∷ ns) (t ∷ ts) d m (suc i) = each_most ns ts d m.1 i

pub over_none : (ns : List ℕ) → said_over ns 0 ≡ refused_with (refusal Dark 0)
unfolding said_over
over_none ns = refl

module _ (ns : List ℕ) (d : ℕ) where
  -- coordinates that are not dark have a divisor
  over_lit : ((said_over ns d).number ≡ number_of Dark → ⊥) → 0 < d
  unfolding said_over
  over_lit light = go (nat_lt 0 d) refl
    where
      go : (b : Bool) → nat_lt 0 d ≡ b → 0 < d
      go true e = ltb-true 0 d e
      go false e = absurd (light (rw e))

  pub over_given : 0 < d → said_over ns d ≡ given (each_over ns d) []
  unfolding said_over
  over_given h = rw (lt-ltb 0 d h)

  -- so they are given
  over_unless_dark : ((said_over ns d).number ≡ number_of Dark → ⊥) → (said_over ns d).number ≡ 0
  over_unless_dark light = rw (over_given (over_lit light))

  over_most : (ts : List ℕ) → AtMost ns ts d → (i : ℕ) → value (said_over ns d) i ≤ get_or ts i 0
  unfolding said_over
  over_most ts m = go (nat_lt 0 d)
    where
      go : (b : Bool) (i : ℕ) → value (cond b (given (each_over ns d) []) (refused_with (refusal Dark 0))) i ≤ get_or ts i 0
      go true i = each_most ns ts d m i
      go false i = zero-le

-- what is said of an answer that a test is required for
said_required : {A : Type 0} (says : A → Said) (b : Bool) (x : A) → said says (require b Dark >>= (λ _. Ok x)) ≡ cond b (says x) (refused_with (refusal Dark 0))
said_required says true x = refl
said_required says false x = refl

module _ (x y z : ℕ) where
  pub xy_is : said_xy (xy_from x y z) ≡ said_over (x ∷ y ∷ []) (x + y + z)
  unfolding xy_from said_over
  xy_is = said_required _ (nat_lt 0 (x + y + z)) (xy_over x y z)

  pub uv_is : said_uv (uv_from x y z) ≡ said_over (4 * x ∷ 9 * y ∷ []) (uv_divisor x y z)
  unfolding uv_from said_over
  uv_is = said_required _ (nat_lt 0 (uv_divisor x y z)) (uv_over x y z)

  pub xy_unless_dark : ((said_xy (xy_from x y z)).number ≡ number_of Dark → ⊥) → (said_xy (xy_from x y z)).number ≡ 0
  xy_unless_dark = rw xy_is (over_unless_dark (x ∷ y ∷ []) (x + y + z))

  -- x and y that are given have a divisor
  pub xy_lit : (v : Xy) → xy_from x y z ≡ Ok v → 0 < x + y + z
  xy_lit v e = over_lit (x ∷ y ∷ []) (x + y + z) (λ dark. let number = rw e at (rw (sym xy_is) at dark) in omega arith)

  -- each is at most 1
  pub xy_most : (i : ℕ) → value (said_xy (xy_from x y z)) i ≤ 100000
  xy_most i =
      le_trans
      (rw xy_is
      (over_most (x ∷ y ∷ []) (x + y + z) (100000 ∷ 100000 ∷ [])
      (mul-le-mul_left 100000 (omega arith), (mul-le-mul_left 100000 (omega arith), tt)) i))
      (both i)
    where
      both : (i : ℕ) → get_or (100000 ∷ 100000 ∷ []) i 0 ≤ 100000
      both zero = le_refl 100000
      both (suc zero) = le_refl 100000
      both (suc (suc i)) = zero-le

  -- u′ is at most 4, and v′ at most 9/15
  pub uv_most : (i : ℕ) → value (said_uv (uv_from x y z)) i ≤ get_or (400000 ∷ 60000 ∷ []) i 0
  uv_most = rw uv_is (over_most (4 * x ∷ 9 * y ∷ []) (uv_divisor x y z) (400000 ∷ 60000 ∷ []) (omega arith, (omega arith, tt)))

  -- the two divisors are 0 together
  together : nat_lt 0 (uv_divisor x y z) ≡ nat_lt 0 (x + y + z)
  together = go (nat_lt 0 (uv_divisor x y z)) (nat_lt 0 (x + y + z)) refl refl
    where
      go : (b c : Bool) → nat_lt 0 (uv_divisor x y z) ≡ b → nat_lt 0 (x + y + z) ≡ c → b ≡ c
      go true true p q = refl
      go false false p q = refl
      go true false p q = absurd (let some = ltb-true 0 (uv_divisor x y z) p in let none = ltb-false 0 (x + y + z) q in omega arith)
      go false true p q = absurd (let none = ltb-false 0 (uv_divisor x y z) p in let some = ltb-true 0 (x + y + z) q in omega arith)

  -- so u′ and v′ are dark where x and y are
  pub uv_refused : RefusedAs (said_xy (xy_from x y z)) (said_uv (uv_from x y z))
  unfolding xy_from uv_from
  uv_refused = rw together (go (nat_lt 0 (x + y + z)))
    where
      go :
          (b : Bool) →
          RefusedAs (said_xy (require b Dark >>= (λ _. Ok (xy_over x y z)))) (said_uv (require b Dark >>= (λ _. Ok (uv_over x y z))))
      go true = record { same_number = refl; same_place = refl }
      go false = record { same_number = refl; same_place = refl }

  -- and so is the chart
  pub chart_refused : RefusedAs (said_xy (xy_from x y z)) (said_on_chart (chart_from x y z))
  unfolding xy_from on_chart
  chart_refused = go (nat_lt 0 (x + y + z))
    where
      go :
          (b : Bool) →
          let xy = require b Dark >>= (λ _. Ok (xy_over x y z)) in
          RefusedAs (said_xy xy) (said_on_chart (on_chart xy (uv_over x y z)))
      go true = record { same_number = refl; same_place = refl }
      go false = record { same_number = refl; same_place = refl }

-- What the grid's check tells of an accepted grid.
use mathlib.Core.Path.{◌≡◌, refl}
use mathlib.Core.Logic.{◌⊎◌, inl, inr, ⊎_elim}
use mathlib.Core.Bool.{Bool, true, false, ◌&&◌, ◌||◌}
use Prim.Native.Nat.{ℕ, ◌+◌, ◌*◌, ◌-◌, ◌≤◌, ◌<◌}
use native.Mathlib.Nat.{mul-le-mul_right}
use native.Mathlib.Omega.{arith}
use borrow.Author.Tests.{leb-true, ltb-true, eqb-true}
use lib.Dec.{leb, ltb, eqb}
use Rattle.grid.specs.declared.refusals.Kind.TheVariants.{Step, Start, Count}
use Rattle.grid.specs.Accepted.{OnGrid}
use Rattle.grid.specs.Check.{Fine, grid_check, is_step, is_start, is_count, last_of, require, ◌>>=◌}
use Rattle.grid.proofs.Limit.{both_fine, passed}

pub both : (b c : Bool) → (b && c) ≡ true → (b ≡ true) × (c ≡ true)
both true c e = (refl, e)
both false c e = absurd (let z : ◌≡◌ {A = ℕ} 0 1 = cc in omega arith)

either : (b c : Bool) → (b || c) ≡ true → (b ≡ true) ⊎ (c ≡ true)
either true c e = inl refl
either false c e = inr e

pub step_cases : (s : ℕ) → is_step s ≡ true → (s ≡ 1) ⊎ ((s ≡ 2) ⊎ ((s ≡ 5) ⊎ (s ≡ 10)))
step_cases s e =
    ⊎_elim
    (λ e'.
    ⊎_elim
    (λ e''.
    ⊎_elim (λ p. inl (eqb-true s 1 p)) (λ p. inr (inl (eqb-true s 2 p))) (either (eqb s 1) (eqb s 2) e''))
    (λ p. inr (inr (inl (eqb-true s 5 p))))
    (either (eqb s 1 || eqb s 2) (eqb s 5) e'))
    (λ p. inr (inr (inr (eqb-true s 10 p))))
    (either (eqb s 1 || eqb s 2 || eqb s 5) (eqb s 10) e)

pub step_range : (s : ℕ) → is_step s ≡ true → (1 ≤ s) × (s ≤ 10)
step_range s e =
    ⊎_elim (λ p. omega arith) (⊎_elim (λ p. omega arith) (⊎_elim (λ p. omega arith) (λ p. omega arith))) (step_cases s e)

pub start_range : (a : ℕ) → is_start a ≡ true → (300 ≤ a) × (a ≤ 380)
start_range a e = let h = both (leb 300 a) (leb a 380) e in (leb-true 300 a h.0, leb-true a 380 h.1)

pub accepted : (a s n : ℕ) → grid_check a s n ≡ Fine → OnGrid a s n
unfolding grid_check
accepted a s n e =
    let first = both_fine (require (is_step s) Step) (require (is_start a) Start >>= (λ _. require (is_count a s n) Count)) e in
    let second = both_fine (require (is_start a) Start) (require (is_count a s n) Count) first.1 in
    let step = passed (is_step s) Step first.0 in
    let start = passed (is_start a) Start second.0 in
    let count = passed (is_count a s n) Count second.1 in
    let range = step_range s step in
    let from = start_range a start in
    let ends = both (ltb 0 n && leb 780 (last_of a s n)) (leb (last_of a s n) 830) count in
    let some_low = both (ltb 0 n) (leb 780 (last_of a s n)) ends.0 in
    let some : 0 < n = ltb-true 0 n some_low.0 in
    let last : a + s * (n - 1) ≤ 830 = leb-true (last_of a s n) 830 ends.1 in
    let more : 1 * (n - 1) ≤ s * (n - 1) = mul-le-mul_right (n - 1) range.0 in
    record {
      step_allowed = step;
      step_low = range.0;
      step_high = range.1;
      start_low = from.0;
      start_high = from.1;
      some = some;
      many = omega arith;
      last_low = leb-true 780 (last_of a s n) some_low.1;
      last_high = last;
    }

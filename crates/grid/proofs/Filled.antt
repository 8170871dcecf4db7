-- Laws of a row that is filled place by place.
use mathlib.Core.Path.{◌≡◌, refl, ◌∙◌}
use mathlib.Core.Bool.{Bool, true, false}
use mathlib.Core.List.{List}
use Prim.Native.Nat.{ℕ, ◌+◌, ◌≤◌, ◌<◌, zero-le}
use native.Mathlib.Omega.{arith}
use borrow.Author.Count.{below_more}
use borrow.Author.Tests.{ltb-true, ltb-false}
use lib.ListN.{length, get_or, set, length-set, get_or-eq_default}
use lib.Dec.{ltb}
use lib.Seq.{get_or-set_same, get_or-set_other}
use Rattle.grid.specs.Filled.{FilledTo}

pub fill_none : (n : ℕ) (f : ℕ → ℕ) (row : List ℕ) → length row ≡ n → FilledTo n f row 0
fill_none n f row long = record { long = long; filled = λ q h. absurd (omega arith) }

-- one place more
pub fill_more :
    (n : ℕ) (f : ℕ → ℕ) (row : List ℕ) (k v : ℕ) → FilledTo n f row k → k < n → v ≡ f k → FilledTo n f (set row k v) (k + 1)
fill_more n f row k v l h e = record {
  long = length-set row k v ∙ l.long;
  filled = below_more (λ q. get_or (set row k v) q 0 ≡ f q) k
      (λ q p. get_or-set_other row k q v 0 (omega arith) ∙ l.filled q p)
      (get_or-set_same row k v 0 (let long = l.long in omega arith) ∙ e);
}

-- a bound on what f says bounds the whole row
pub filled_within :
    (n bound : ℕ) (f : ℕ → ℕ) (row : List ℕ) → FilledTo n f row n → ((k : ℕ) → f k ≤ bound) → (k : ℕ) → get_or row k 0 ≤ bound
filled_within n bound f row l h k = go (ltb k n) refl
  where
    go : (b : Bool) → ltb k n ≡ b → get_or row k 0 ≤ bound
    go true e = rw (l.filled k (ltb-true k n e)) (h k)
    go false e =
        let past : length row ≤ k = rw l.long (ltb-false k n e) in
        rw (get_or-eq_default row 0 past) zero-le

-- Laws of a row's weighted sum, place by place.
use Rattle.std.proofs.Common.{◌≡◌, ℕ, ◌+◌, ◌*◌, ◌%◌, ◌≤◌, ◌<◌, List, slice_index, ap₂, arith}
use Rattle.std.proofs.Math.Nat.{le_trans, mul-le-mul_left, mod-eq_of_lt}
use Rattle.grid.specs.Check.{Within}
use Rattle.mixing.specs.Sum.{weighted, entry_of}
use Rattle.mixing.proofs.Sum.{weighted_one, weighted_bound}
use Rattle.tables.specs.Held.{Counts}

module _ (counts row : List ℕ) (of : Counts counts) (small : Within 10000000 row) where
  -- the remainders by 2^32 change nothing
  pub product : (k : ℕ) → slice_index counts k % 4294967296 * (slice_index row k % 4294967296) ≡ slice_index counts k * slice_index row k
  product k =
      let a : slice_index counts k < 4294967296 = (let h = of.each k in omega arith) in
      let b : slice_index row k < 4294967296 = (let h = small k in omega arith) in
      ap₂ (λ (x y : ℕ). x * y) (mod-eq_of_lt a) (mod-eq_of_lt b)

  -- one place more
  pub more :
      (k before sum : ℕ) → sum + before ≡ weighted k (entry_of counts) (entry_of row) →
      sum + slice_index counts k % 4294967296 * (slice_index row k % 4294967296) + before ≡ weighted (k + 1) (entry_of counts) (entry_of row)
  more k before sum e = let w = weighted_one k (entry_of counts) (entry_of row) in let p = product k in omega arith

  -- no such sum passes 64 bits
  pub most : (k : ℕ) → k ≤ 471 → weighted k (entry_of counts) (entry_of row) ≤ 10000000000000000000
  most k l = le_trans (weighted_bound 10000000 k 471 (entry_of counts) (entry_of row) small l) (mul-le-mul_left 10000000 of.all)

-- Power times row, split at 2^21 into two rows: what the products are, and what the two rows make together.
use Rattle.std.proofs.Common.{◌≡◌, ℕ, ◌+◌, ◌*◌, ◌/◌, ◌%◌, ◌^◌, ◌≤◌, ◌<◌, List, slice_index, ap, ◌∙◌, arith}
use Rattle.std.proofs.Math.Nat.{mod-eq_of_lt, mul-le-mul, mul_comm, mul_left_comm}
use Rattle.grid.specs.Check.{Within}
use Rattle.grid.specs.Filled.{FilledTo}
use Rattle.grid.proofs.Filled.{filled_within}
use Rattle.mixing.specs.Sum.{weighted, entry_of}
use Rattle.mixing.proofs.Sum.{total_ext, weighted_ext}
use Rattle.tables.specs.declared.Curve.{Curve}
use Rattle.tables.specs.declared.Illuminant.{Illuminant}
use Rattle.tables.specs.Curves.{weight_of, power_of, lit_by}
use Rattle.tables.proofs.Columns.{power_bound}

-- the product at a place
abbrev pub product : Illuminant → List ℕ → ℕ → ℕ
product i row k = power_of i k * slice_index row k

module _ (i : Illuminant) (row : List ℕ) (small : Within 100000 row) where
  -- the remainder by 2^32 changes nothing
  pub product_is : (k : ℕ) → power_of i k * (slice_index row k % 4294967296) ≡ product i row k
  product_is k =
      let fit : slice_index row k < 4294967296 = (let h = small k in omega arith) in
      ap (λ (x : ℕ). power_of i k * x) (mod-eq_of_lt fit)

  product_small : (k : ℕ) → product i row k ≤ 2616020000000
  product_small k = mul-le-mul (power_bound i k) (small k)

  -- the high row can be weighed
  pub high_within : (high : List ℕ) → FilledTo 471 (λ k. product i row k / 2 ^ 21) high 471 → Within 10000000 high
  high_within high filled = filled_within 471 10000000 _ high filled (λ k. let h = product_small k in omega arith)

  pub joined :
      (high low : List ℕ) → FilledTo 471 (λ k. product i row k / 2 ^ 21) high 471 → FilledTo 471 (λ k. product i row k % 2 ^ 21) low 471 →
      (k : ℕ) → k < 471 → slice_index high k * 2 ^ 21 + slice_index low k ≡ product i row k
  joined high low upper lower k h = rw (upper.filled k h, lower.filled k h) (omega arith)

-- the power may stand with the row or with the curve
lit_weighed :
    (i : Illuminant) (c : Curve) (row : List ℕ) →
    weighted 471 (weight_of c) (product i row) ≡ weighted 471 (lit_by i c) (entry_of row)
unfolding weighted
lit_weighed i c row =
    total_ext 471 (λ k. weight_of c k * (power_of i k * slice_index row k)) (λ k. power_of i k * weight_of c k * slice_index row k)
    (λ k h. go (weight_of c k) (power_of i k) (slice_index row k))
  where
    go : (x y z : ℕ) → x * (y * z) ≡ y * x * z
    go x y z = simp (mul_comm, mul_left_comm)

-- what is lit weighs what the row does under the illuminant
pub weighs_as_lit :
    (i : Illuminant) (c : Curve) (row : List ℕ) (line : ℕ → ℕ) → ((k : ℕ) → k < 471 → line k ≡ product i row k) →
    weighted 471 (weight_of c) line ≡ weighted 471 (lit_by i c) (entry_of row)
weighs_as_lit i c row line same = weighted_ext 471 (weight_of c) line (product i row) same ∙ lit_weighed i c row

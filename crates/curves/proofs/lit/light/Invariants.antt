-- The places passed hold the two parts of the product, and those to come what they held.
use Rattle.std.proofs.Common.{◌≡◌, ℕ, ◌/◌, ◌%◌, ◌^◌, ◌≤◌, slice_index}
use Rattle.grid.specs.Filled.{FilledTo}
use Rattle.curves.proofs.Product.{product}
use Rattle.curves.proofs.lit.light.Given as goal

abbrev pub invariant-loop-k : goal.invariant-loop-k
invariant-loop-k l = record {
  upper : FilledTo 471 (λ j. product l.fn.illuminant l.fn.low j / 2 ^ 21) l.high l.k;
  lower : FilledTo 471 (λ j. product l.fn.illuminant l.fn.low j % 2 ^ 21) l.low l.k;
  rest : (j : ℕ) → l.k ≤ j → slice_index l.low j ≡ slice_index l.fn.low j;
}

-- What the row of samples within a limit is: small enough to be weighed, and W when it is, which has a bound.
use mathlib.Core.Path.{◌≡◌, sym, ap, ◌∙◌}
use mathlib.Core.List.{List}
use Prim.Native.Nat.{ℕ, ◌+◌, ◌*◌, ◌≤◌}
use native.Mathlib.Nat.{le_refl, le_trans, mul-le-mul_right}
use lib.ListN.{length, drop}
use Rattle.grid.specs.Accepted.{OnGrid}
use Rattle.grid.specs.Check.{Within}
use Rattle.grid.proofs.Limit.{within_row}
use Rattle.mixing.specs.Sum.{total, weighted, entry_of}
use Rattle.mixing.proofs.Sum.{weighted_ext, weighted_bound}
use Rattle.spectrum.specs.Line.{T, W}
use Rattle.spectrum.specs.Begin.{Begins}
use Rattle.spectrum.specs.Lay.{listed, row_of}
use Rattle.spectrum.specs.declared.line.Begin.{Begin}
use Rattle.spectrum.proofs.Measured.{T_bound}
use Rattle.spectrum.proofs.Lay.{length_listed, get_d_listed, row_begun}

-- no place of the row is above 10 times the samples' limit
pub row_within : (a s limit : ℕ) (xs : List ℕ) → 1 ≤ s → s ≤ 10 → Within limit xs → Within (10 * limit) (row_of a s xs)
unfolding row_of
row_within a s limit xs low high within =
    let f : ℕ → ℕ = λ q. T a s xs (360 + q) in
    within_row (10 * limit) (listed 471 f)
    (λ k h.
    rw (get_d_listed 471 f k (rw (length_listed 471 f) at h))
    (le_trans (T_bound a s limit xs within (360 + k) low) (mul-le-mul_right limit high)))

-- weighed, the row gives W
pub row_weighed : (v : ℕ → ℕ) (a s : ℕ) (xs : List ℕ) → weighted 471 v (entry_of (row_of a s xs)) ≡ W v a s xs
unfolding W row_of
row_weighed v a s xs =
    weighted_ext 471 v (entry_of (row_of a s xs)) (λ k. T a s xs (360 + k)) (get_d_listed 471 (λ q. T a s xs (360 + q)))

-- and from the sample at or just below 360 on it gives the same
pub W_begun :
    (v : ℕ → ℕ) (a s : ℕ) (xs : List ℕ) → OnGrid a s (length xs) → (b : Begin) → Begins a s b →
    W v b.wavelength s (drop b.place xs) ≡ W v a s xs
W_begun v a s xs on b is =
    sym (row_weighed v b.wavelength s (drop b.place xs)) ∙ ap (λ (row : List ℕ). weighted 471 v (entry_of row)) (row_begun a s xs on b is)
    ∙ row_weighed v a s xs

-- by any weights, no row within a limit passes the one that is at the limit everywhere
pub W_bound :
    (v : ℕ → ℕ) (a s limit : ℕ) (xs : List ℕ) → 1 ≤ s → Within limit xs → W v a s xs ≤ s * limit * total 471 v
unfolding W
W_bound v a s limit xs low within =
    weighted_bound (s * limit) 471 471 v (λ k. T a s xs (360 + k)) (λ k. T_bound a s limit xs within (360 + k) low) (le_refl 471)

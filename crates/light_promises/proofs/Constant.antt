-- A row that is the same at every sample is accepted on every accepted grid. Its sums are s times it times the tables' sums, so s
-- cancels in what is worked from them; and no row within a limit has more than the one at that limit.
use mathlib.Core.Path.{◌≡◌}
use mathlib.Core.List.{List}
use Prim.Native.Nat.{ℕ, ◌*◌, ◌≤◌, ◌<◌}
use native.Mathlib.Nat.{mul_assoc, mul_left_comm, mul-le-mul_left}
use lib.ListN.{replicate, length-replicate, get_or-replicate}
use Rattle.grid.specs.declared.refusals.Kind.TheVariants.{Sample, Reflectance}
use Rattle.grid.specs.Accepted.{OnGrid}
use Rattle.grid.specs.Check.{Within, Fine, grid_check, spectrum_check, light_check, reflected_check}
use Rattle.grid.proofs.Limit.{within_row, within_fine}
use Rattle.mixing.specs.Sum.{total}
use Rattle.mixing.specs.Nearest.{nearest}
use Rattle.mixing.proofs.Nearest.{nearest_cancel, nearest_scaled}
use Rattle.spectrum.specs.Line.{W}
use Rattle.spectrum.proofs.Constant.{W_constant}
use Rattle.spectrum.proofs.Light.{W_bound}
use Rattle.panel.proofs.Given.{Setting, SeenPanel}

within_constant : (limit n r : ℕ) → r ≤ limit → Within limit (replicate n r)
within_constant limit n r h = within_row limit (replicate n r) (λ k l. rw (get_or-replicate n k r 0 (rw (length-replicate n r) at l)) h)

pub light_accepted : (a s n r : ℕ) → r ≤ 1000000 → grid_check a s n ≡ Fine → light_check a s (replicate n r) ≡ Fine
unfolding spectrum_check
light_accepted a s n r h fine =
    rw (length-replicate n r, fine) (within_fine Sample 1000000 (replicate n r) (within_constant 1000000 n r h))

pub reflected_accepted : (a s n r : ℕ) → r ≤ 10000 → grid_check a s n ≡ Fine → reflected_check a s (replicate n r) ≡ Fine
unfolding spectrum_check
reflected_accepted a s n r h fine =
    rw (length-replicate n r, fine) (within_fine Reflectance 10000 (replicate n r) (within_constant 10000 n r h))

abbrev pub constant_panel : (o i a s n r : ℕ) → r ≤ 10000 → Setting o i a s n → SeenPanel o i a s (replicate n r)
constant_panel o i a s n r h it =
    record {
      observer = it.observer;
      illuminant = it.illuminant;
      sees = it.sees;
      lights = it.lights;
      fine = reflected_accepted a s n r h it.grid;
    }

-- f times a sum, over s times d
module _ (v : ℕ → ℕ) (f d s r : ℕ) where
  pub nearest_constant :
      (a n : ℕ) → OnGrid a s n → nearest (f * W v a s (replicate n r)) (s * d) ≡ nearest (f * (r * total 471 v)) d
  nearest_constant a n on =
      rw (W_constant a s n r on.step_low on.some v, mul_left_comm f s (r * total 471 v))
      (nearest_cancel s (f * (r * total 471 v)) d on.step_low)

  pub no_more : (a : ℕ) (xs : List ℕ) → 0 < s → Within r xs → nearest (f * W v a s xs) (s * d) ≤ nearest (f * (r * total 471 v)) d
  no_more a xs pos within =
      let bound = rw (mul_assoc s r (total 471 v)) at (W_bound v a s r xs pos within) in
      let times = rw (mul_left_comm f s (r * total 471 v)) at (mul-le-mul_left f bound) in
      nearest_scaled s (f * W v a s xs) (f * (r * total 471 v)) d pos times

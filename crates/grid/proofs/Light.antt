-- What is known of a spectrum that is accepted, and of a light.
use Rattle.std.proofs.Common.{◌≡◌, List, ℕ, length}
use Rattle.grid.specs.declared.refusals.Kind.{Kind}
use Rattle.grid.specs.declared.refusals.Kind.TheVariants.{Sample}
use Rattle.grid.specs.Accepted.{OnGrid}
use Rattle.grid.specs.Check.{Fine, grid_check, limit_check, spectrum_check, light_check, Within}
use Rattle.grid.proofs.Limit.{both_fine, fine_within}
use Rattle.grid.proofs.Accepted.{accepted}

module _ (kind : Kind) (limit a s : ℕ) (xs : List ℕ) (fine : spectrum_check kind limit a s xs ≡ Fine) where
  pub grid_fine : grid_check a s (length xs) ≡ Fine
  unfolding spectrum_check
  grid_fine = (both_fine (grid_check a s (length xs)) (limit_check kind limit xs) fine).0

  pub limit_fine : limit_check kind limit xs ≡ Fine
  unfolding spectrum_check
  limit_fine = (both_fine (grid_check a s (length xs)) (limit_check kind limit xs) fine).1

  pub within_limit : Within limit xs
  within_limit = fine_within kind limit xs limit_fine

  pub on_the_grid : OnGrid a s (length xs)
  on_the_grid = accepted a s (length xs) grid_fine

module _ (a s : ℕ) (xs : List ℕ) (fine : light_check a s xs ≡ Fine) where
  pub within : Within 1000000 xs
  within = within_limit Sample 1000000 a s xs fine

  pub on_grid : OnGrid a s (length xs)
  on_grid = on_the_grid Sample 1000000 a s xs fine

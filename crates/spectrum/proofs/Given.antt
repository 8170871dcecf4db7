-- A spectrum that passes its checks is given, and else its refusal is.
use Rattle.std.proofs.Common.{◌≡◌, List, ℕ, Ok, Err}
use Rattle.grid.specs.declared.refusals.Kind.{Kind}
use Rattle.grid.specs.Check.{Fine, spectrum_check, light_check}
use Rattle.grid.proofs.Light.{within_limit, on_the_grid}
use Rattle.spectrum.specs.Spectrum.{Accepted, spectrum_of, light_of}

module _ (kind : Kind) (limit a s : ℕ) (xs : List ℕ) (fine : spectrum_check kind limit a s xs ≡ Fine) where
  pub spectrum_given : spectrum_of kind limit a s xs ≡ Ok (record { start = a; step = s; samples = xs })
  unfolding spectrum_of
  spectrum_given = rw fine

  pub spectrum_accepted : Accepted limit (record { start = a; step = s; samples = xs })
  spectrum_accepted = record { on = on_the_grid kind limit a s xs fine; within = within_limit kind limit a s xs fine }

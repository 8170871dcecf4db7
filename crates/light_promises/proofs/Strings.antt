-- A string of lamps keeps its promises, by the laws of mixed light at what each reading is.
use mathlib.Core.Path.{◌≡◌}
use mathlib.Core.List.{List, [], ◌∷◌}
use Prim.Native.Nat.{ℕ, ◌≤◌}
use native.Mathlib.Omega.{arith}
use Rattle.grid.specs.declared.refusals.Kind.TheVariants.{Sample}
use Rattle.grid.specs.Check.{Fine, spectrum_check, light_check}
use Rattle.grid.proofs.Limit.{within_fine}
use Rattle.grid.proofs.Light.{grid_fine}
use Rattle.mixing.specs.Mixture.{mixture}
use Rattle.mixing.proofs.Mixture.{length_mixture}
use Rattle.light_promises.specs.Lights.{Answer}
use Rattle.light_promises.specs.Strings.{Lamps, HalfTheirNumber, Coloured, OfStrings, StringOf}
use Rattle.light_promises.proofs.Passing.{Passing}
use Rattle.light_promises.proofs.Sums.{half}
use Rattle.light_promises.proofs.Over.{coloured}
use Rattle.light_promises.proofs.Instances.{LightSums, LightOver, amounts_of, colours_of}

module _ (m : ℕ) (any : 1 ≤ m) where
  pub lamps_accepted : (a s n : ℕ) (xss : List (List ℕ)) → Lamps m a s n xss → light_check a s (mixture n xss) ≡ Fine
  unfolding spectrum_check
  lamps_accepted a s n [] lamps = absurd (let number = lamps.number in omega arith)
  lamps_accepted a s n (xs ∷ xss) lamps =
      let grid = rw lamps.one_grid.0 at (grid_fine Sample 1000000 a s xs lamps.accepted.0) in
      rw (length_mixture n (xs ∷ xss) lamps.one_grid, grid) (within_fine Sample 1000000 (mixture n (xs ∷ xss)) (λ k. omega (arith, lamps.within k)))

  passing : (a s n : ℕ) (xss : List (List ℕ)) → Lamps m a s n xss → Passing (light_check a s) n xss
  passing a s n xss lamps =
      record { each = lamps.accepted; rows = lamps.one_grid; mixed = lamps_accepted a s n xss lamps }

  pub halves : (answer : Answer) → LightSums answer → OfStrings m HalfTheirNumber answer
  halves answer sums a s n xss lamps = half (sums a s) n xss (rw lamps.number any) (passing a s n xss lamps)

  pub colours : (answer : Answer) → LightOver answer → OfStrings m Coloured answer
  colours answer over a s n xss lamps = coloured (over a s) n xss (passing a s n xss lamps)

  pub string_of : StringOf m
  string_of = record { accepted = lamps_accepted; amounts = amounts_of _ halves; colours = colours_of _ colours }

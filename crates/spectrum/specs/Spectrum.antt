-- A sampled spectrum that is accepted.
use Rattle.std.specs.Prelude.{Result, Ok, List, ℕ, length}
use Rattle.grid.specs.declared.refusals.Kind.{Kind}
use Rattle.grid.specs.declared.refusals.Kind.TheVariants.{Sample, Reflectance}
use Rattle.grid.specs.declared.refusals.Refusal.{Refusal}
use Rattle.grid.specs.Accepted.{OnGrid}
use Rattle.grid.specs.Check.{◌>>=◌, spectrum_check, Within}

-- where it starts, its step, and its samples or reflectances
pub record Measured : Type 0 where
  pub start : ℕ
  pub step : ℕ
  pub samples : List ℕ

-- what every check says of it
pub record Accepted (limit : ℕ) (m : Measured) : Type 0 where
  pub on : OnGrid m.start m.step (length m.samples)
  pub within : Within limit m.samples

-- a spectrum, or its first refusal: STEP, START, COUNT, and then that of the first sample above the limit
unfoldable pub spectrum_of : Kind → ℕ → ℕ → ℕ → List ℕ → Result Measured Refusal
spectrum_of kind limit a s xs = do
  _ ← spectrum_check kind limit a s xs
  Ok (record { start = a; step = s; samples = xs })

-- a light, whose samples are at most 1,000,000
abbrev pub light_of : ℕ → ℕ → List ℕ → Result Measured Refusal
light_of a s xs = spectrum_of Sample 1000000 a s xs

-- a panel's reflectances, at most 10,000
abbrev pub reflected_of : ℕ → ℕ → List ℕ → Result Measured Refusal
reflected_of a s rs = spectrum_of Reflectance 10000 a s rs

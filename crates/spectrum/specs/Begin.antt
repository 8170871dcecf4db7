-- Where the samples that carry weight begin in a row: no promise to a caller rests on the reading of this.
use Rattle.std.specs.Prelude.{◌≡◌, ℕ, ◌+◌, ◌*◌, ◌-◌, ◌/◌}
use Rattle.spectrum.specs.declared.line.Begin.{Begin}

-- the sample at or just below 360, or the first one where the row begins above: its place and its wavelength
pub record Begins (a s : ℕ) (begin : Begin) : Type 0 where
  pub place : begin.place ≡ (360 - a) / s
  pub wavelength : begin.wavelength ≡ a + s * ((360 - a) / s)

-- The constant's bits are those of 100000 made a float.
use Rattle.std.proofs.Common.{refl}
use lib.Ieee.{of_int, of_bits}
use Rattle.answers.specs.Worked.{coordinate_float}
use Rattle.answers.proofs.sums.coordinate_float.Goals as goal

pub returns : goal.returns
unfolding coordinate_float of_int of_bits
returns c = refl

-- The checks, the packing and the cutting compute on the example's samples.
use mathlib.Core.Path.{refl}
use Rattle.grid.specs.Check.{grid_check, limit_check, spectrum_check}
use Rattle.record.specs.Bits.{bits_of, num, pack, cut}
use Rattle.record.specs.Format.{record_of}
use Rattle.record_promises.proofs.records.promise_example_record.Goals as goal

pub returns : goal.returns
unfolding spectrum_check grid_check limit_check record_of pack cut bits_of num
returns c = record { accepted = refl; length = refl; begins = refl }

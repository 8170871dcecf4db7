-- The answer is known in each arm, and what it says computes to the fields; 0.0 has the bits 0.
use Rattle.std.proofs.Common.{rules}
use lib.Ieee.{of_int, of_bits}
use Rattle.quailribbon.proofs.flatten.QrChartFromResultOnChartRefusal.from.Goals as goal

pub returns-in-Ok-Dark : goal.returns-in-Ok-Dark
unfolding of_int of_bits
returns-in-Ok-Dark c = Prim.search rules

pub returns-in-Err : goal.returns-in-Err
unfolding of_int of_bits
returns-in-Err c = Prim.search rules

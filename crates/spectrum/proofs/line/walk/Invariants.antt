-- The row is laid up to sample i.
use Rattle.std.proofs.Common.{◌+◌, ◌*◌, ◌-◌}
use Rattle.spectrum.specs.Lay.{LaidTo}
use Rattle.spectrum.proofs.line.walk.Given as goal

abbrev pub invariant-loop-i : goal.invariant-loop-i
invariant-loop-i g l = LaidTo l.first g.row.STEP (g.N.Sampled.values l.part) l.row (l.first + g.row.STEP * l.i - 360)

-- The row is laid up to d nanometres above sample i.
use Rattle.std.proofs.Common.{◌+◌, ◌*◌, ◌-◌}
use Rattle.spectrum.specs.Lay.{LaidTo}
use Rattle.spectrum.proofs.line.lay_between.Given as goal

abbrev pub invariant-loop-d : goal.invariant-loop-d
invariant-loop-d g l = LaidTo l.first g.row.STEP (g.N.Sampled.values l.part) l.row (l.first + g.row.STEP * l.i + l.d - 360)

-- One place more on the line.
use Rattle.std.proofs.Common.{arith}
use Rattle.spectrum.proofs.Lay.{walk_more}
use Rattle.spectrum.proofs.line.lay_between.Goals as goal

pub loop-d-preserved : goal.loop-d-preserved
loop-d-preserved g c =
    let row = c.args.part.now in
    let xs = g.N.Sampled.values row in
    rw (c.at-here.ensures.value, c.at-next.ensures.value)
    (walk_more c.args.first g.row.STEP xs c.args.i c.loop-d.d _ c.loop-d.row (g.met.N.Sampled.long row)
    c.requires.part c.requires.place c.loop-d-test.true (omega arith) c.loop-d.invariant)

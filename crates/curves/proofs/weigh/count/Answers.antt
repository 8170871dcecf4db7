-- One place more.
use Rattle.std.proofs.Common.{◌+◌, arith}
use Rattle.curves.proofs.Places.{more, most}
use Rattle.curves.proofs.weigh.count.Goals as goal

pub overflow_add-sum : goal.overflow_add-sum
overflow_add-sum c =
    let next = more c.args.counts.now c.args.row.now c.requires.counts c.requires.small c.loop-k.k _ _ c.loop-k.invariant in
    omega (arith, next, most c.args.counts.now c.args.row.now c.requires.counts c.requires.small (c.loop-k.k + 1) (omega arith))

pub loop-k-preserved : goal.loop-k-preserved
loop-k-preserved c = more c.args.counts.now c.args.row.now c.requires.counts c.requires.small c.loop-k.k _ _ c.loop-k.invariant

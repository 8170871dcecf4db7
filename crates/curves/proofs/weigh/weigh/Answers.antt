-- One stretch more, and all of them.
use Rattle.std.proofs.Common.{◌<◌, length, arith}
use Rattle.mixing.specs.Sum.{entry_of}
use Rattle.tables.proofs.Held.{held}
use Rattle.curves.proofs.Stretches.{next, next_in_order, part_of, done, four}
use Rattle.curves.proofs.weigh.weigh.Goals as goal

pub count-requires-clause-counts : goal.count-requires-clause-counts
count-requires-clause-counts c = rw c.table-table.ensures.counts (held c.args.curve).counts

long : (c : goal.After-row_known-1) → c.loop-stretch.stretch-index < length c.table-table.result.stretches.now
long c =
    rw (four c.args.curve c.args.row.now _ _ c.table-table.ensures.stretches c.table-table.ensures.counts) c.loop-stretch-test.true

pub overflow_add-sum : goal.overflow_add-sum
overflow_add-sum c =
    let whole = next (entry_of c.table-table.result.counts.now) (entry_of c.args.row.now) _ _ _ c.loop-stretch.begin (long c) _ _ c.count.ensures c.loop-stretch.invariant.whole in
    omega (arith, part_of c.args.curve c.args.row.now _ _ c.table-table.ensures.stretches c.table-table.ensures.counts c.requires _ _ whole)

pub loop-stretch-preserved : goal.loop-stretch-preserved
loop-stretch-preserved c =
    let f = entry_of c.table-table.result.counts.now in
    let line = entry_of c.args.row.now in
    record {
      whole = next f line _ _ _ c.loop-stretch.begin (long c) _ _ c.count.ensures c.loop-stretch.invariant.whole;
      order = next_in_order f line _ _ _ c.loop-stretch.begin (long c) c.loop-stretch.invariant.order;
    }

pub returns-clause-sum : goal.returns-clause-sum
returns-clause-sum c =
    done c.args.curve c.args.row.now _ _ c.table-table.ensures.stretches c.table-table.ensures.counts c.loop-stretch.stretch-index _ _
    c.loop-stretch-test.false c.loop-stretch.invariant.whole

pub returns-clause-most : goal.returns-clause-most
returns-clause-most c =
    part_of c.args.curve c.args.row.now _ _ c.table-table.ensures.stretches c.table-table.ensures.counts c.requires _ _ c.loop-stretch.invariant.whole

-- The sum so far, and what the stretches to come add, is what all add.
use Rattle.std.proofs.Common.{◌≡◌, true, ◌+◌, drop}
use Rattle.mixing.specs.Sum.{entry_of}
use Rattle.tables.specs.Units.{in_order}
use Rattle.curves.proofs.Stretches.{rest_of}
use Rattle.curves.proofs.weigh.weigh.Given as goal

abbrev pub invariant-loop-stretch : goal.invariant-loop-stretch
invariant-loop-stretch l = record {
  whole : l.sum + rest_of (entry_of l.table.counts.now) (entry_of l.row) l.begin (drop l.stretch-index l.stretch-items)
      ≡ rest_of (entry_of l.table.counts.now) (entry_of l.row) 0 l.stretch-items;
  order : in_order l.begin (drop l.stretch-index l.stretch-items) ≡ true;
}

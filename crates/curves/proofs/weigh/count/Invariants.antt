-- With the sum of the places before the stretch, the sum so far is that of all places so far.
use Rattle.std.proofs.Common.{◌≡◌, ◌+◌}
use Rattle.mixing.specs.Sum.{weighted, entry_of}
use Rattle.curves.proofs.weigh.count.Given as goal

abbrev pub invariant-loop-k : goal.invariant-loop-k
invariant-loop-k l = l.sum + weighted l.begin (entry_of l.counts) (entry_of l.row) ≡ weighted l.k (entry_of l.counts) (entry_of l.row)

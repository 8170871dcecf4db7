-- The sums of the two rows are joined as the rows are.
use Rattle.std.proofs.Common.{◌^◌, arith}
use Rattle.mixing.specs.Sum.{entry_of}
use Rattle.mixing.proofs.Sum.{weighted_joined}
use Rattle.tables.specs.Curves.{weight_of}
use Rattle.curves.proofs.lit.weigh_lit.Goals as goal

pub returns-clause-sum : goal.returns-clause-sum
returns-clause-sum c =
    omega (arith, weighted_joined (2 ^ 21) 471 (weight_of c.args.curve) (entry_of c.args.high.now) (entry_of c.args.low.now))

-- The high row can be weighed.
use Rattle.std.proofs.Common.{◌≡◌, arith}
use Rattle.curves.proofs.Product.{high_within}
use Rattle.curves.proofs.lit.light.Goals as goal

pub returns-clause-high_small : goal.returns-clause-high_small
returns-clause-high_small c =
    let all : c.loop-k.k ≡ 471 = omega arith in
    high_within c.args.illuminant c.args.low.now c.requires c.loop-k.high (rw all at c.loop-k.invariant.upper)

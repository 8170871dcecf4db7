-- Rounded or not, the quotient is the nearest, which fits.
use Rattle.std.proofs.Common.{arith}
use Rattle.exact.proofs.Quotient.{stays, goes_up, in_range}
use Rattle.exact.proofs.nearest.Goals as goal

pub divide-quotient-requires-clause-most : goal.divide-quotient-requires-clause-most
divide-quotient-requires-clause-most c = omega (arith, in_range c.args.n c.args.d c.requires.divisor c.requires.most)

pub overflow_cast-result : goal.overflow_cast-result
overflow_cast-result c = let d = c.divide-quotient in omega (arith, stays d.result.0 d.result.1 c.args.n c.args.d d.ensures.whole d.ensures.below c.if-rest-d.true, c.requires.most)

pub overflow_cast-result-else-rest-d : goal.overflow_cast-result-else-rest-d
overflow_cast-result-else-rest-d c = let d = c.divide-quotient in omega (arith, goes_up d.result.0 d.result.1 c.args.n c.args.d d.ensures.whole d.ensures.below c.if-rest-d.false, c.requires.most)

pub overflow_add-result : goal.overflow_add-result
overflow_add-result c = let d = c.divide-quotient in omega (arith, goes_up d.result.0 d.result.1 c.args.n c.args.d d.ensures.whole d.ensures.below c.if-rest-d.false, c.requires.most)

pub returns-then-rest-d : goal.returns-then-rest-d
returns-then-rest-d c = let d = c.divide-quotient in stays d.result.0 d.result.1 c.args.n c.args.d d.ensures.whole d.ensures.below c.if-rest-d.true

pub returns-else-rest-d : goal.returns-else-rest-d
returns-else-rest-d c = let d = c.divide-quotient in goes_up d.result.0 d.result.1 c.args.n c.args.d d.ensures.whole d.ensures.below c.if-rest-d.false

-- What is shifted fits 64 bits, and the quotient is never too large.
use Rattle.std.proofs.Common.{arith, ◌^◌}
use Rattle.std.proofs.lemmas.Nat.{pow_pos}
use Rattle.exact.proofs.Shifted.{shifted_below, shifted_less, never_more}
use Rattle.exact.proofs.leading.Goals as goal

pub overflow_cast-result-2 : goal.overflow_cast-result-2
overflow_cast-result-2 c = rw c.saturating_sub-shift.ensures (omega (arith, shifted_below c.args.n c.ranges.n.fits))

pub overflow_cast-result-4 : goal.overflow_cast-result-4
overflow_cast-result-4 c = rw c.saturating_sub-shift.ensures (omega (arith, shifted_less c.args.n c.ranges.n.fits c.args.d c.if-n-d.false))

pub overflow_add-result : goal.overflow_add-result
overflow_add-result c = rw c.saturating_sub-shift.ensures (omega (arith, shifted_less c.args.n c.ranges.n.fits c.args.d c.if-n-d.false))

pub returns : goal.returns
returns c = never_more c.args.n c.args.d (2 ^ c.saturating_sub-shift.result) c.requires (pow_pos c.saturating_sub-shift.result)

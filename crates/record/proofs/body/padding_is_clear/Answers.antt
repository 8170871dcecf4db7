-- An even count has no padding; an odd one has it in the low half of the last byte.
use Rattle.std.proofs.Common.{sym, ap, ℕ, arith, nat_eq}
use borrow.Author.Tests.{eq-eqb}
use Rattle.record.specs.Bits.{Bytes}
use Rattle.record.proofs.Fields.{padding_even, padding_odd}
use Rattle.record.proofs.body.padding_is_clear.Goals as goal

pub returns-then-count-eq0 : goal.returns-then-count-eq0
returns-then-count-eq0 c = rw (padding_even c.args.count c.args.bytes.now c.if-count-eq0.true, eq-eqb _ 0 c.if-count-eq0.true)

pub returns-else-count-eq0 : goal.returns-else-count-eq0
returns-else-count-eq0 c =
    let n = c.args.count in
    let bytes = c.args.bytes.now in
    let known : Bytes bytes = λ i. omega (arith, c.type_inv.bytes i) in
    ap (λ (x : ℕ). nat_eq x 0) (sym (padding_odd n bytes known c.requires.0 c.requires.1 (omega arith)))

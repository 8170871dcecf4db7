-- The tests are those of the fields in the number that the first three bytes make.
use Rattle.std.proofs.Common.{sym, ◌∙◌, arith, length, nat_le}
use Rattle.grid.specs.declared.refusals.Kind.TheVariants.{Length}
use Rattle.grid.proofs.Limit.{passed}
use Rattle.record.proofs.Reading.{header_number}
use Rattle.record.proofs.head.read_header.Goals as goal

pub returns-clause-value : goal.returns-clause-value
returns-clause-value c =
    let bytes = c.args.bytes.now in
    let long = passed (nat_le 3 (length bytes)) Length (sym c.require.ensures ∙ c.in_ok-require.was) in
    c.header_from.ensures.value
    ∙ sym (header_number bytes c.from_be_bytes.result (λ i. omega (arith, c.type_inv.bytes i)) (omega (arith, c.from_be_bytes.ensures)) long)

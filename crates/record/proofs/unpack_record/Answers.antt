-- A refusal of the header is the answer; else the shape's check answers, for the count that the header says.
use Rattle.std.proofs.Common.{sym, ap, ◌∙◌, List, ◌++◌, ℕ, length, drop, arith}
use Rattle.std.proofs.lemmas.List.{length-take-le}
use Rattle.std.proofs.lemmas.Grind.{common_steps}
use Rattle.record.specs.declared.Header.{Header}
use Rattle.record.proofs.Reading.{header_refused, shape_left}
use Rattle.record.proofs.unpack_record.Goals as goal

pub returns-in_err-header : goal.returns-in_err-header
returns-in_err-header c =
    let refused = header_refused c.args.bytes.now (length c.args.row.now) _ (sym c.read_header.ensures.value ∙ c.in_err-header.was) in
    record { value = rw refused (grind (arith, common_steps)); row_unpacked = rw refused; count = grind (arith, common_steps) }

pub returns-in_err-check_shape : goal.returns-in_err-check_shape
returns-in_err-check_shape c =
    let left = shape_left c.args.bytes.now (length c.args.row.now) _ (sym c.read_header.ensures.value ∙ c.in_ok-header.was) in
    let refused = left.0 ∙ sym c.check_shape.ensures.value ∙ c.in_err-check_shape.was in
    record { value = rw refused (grind (arith, common_steps)); row_unpacked = rw refused; count = grind (arith, common_steps) }

pub returns : goal.returns
returns c =
    let count = c.in_ok-header.header.count in
    let row = c.args.row.now in
    let left = shape_left c.args.bytes.now (length row) _ (sym c.read_header.ensures.value ∙ c.in_ok-header.was) in
    let fine = left.0 ∙ sym c.check_shape.ensures.value ∙ c.in_ok-check_shape.was in
    let few = c.in_ok-header.ensures.count.1 in
    let enough = c.in_ok-check_shape.ensures.fine.1 in
    let samples = rw (length-take-le count row enough) at c.unpack.ensures in
    record {
      value = rw (fine, left.1);
      row_unpacked = rw (fine, ← ap (λ (h : Header). h.count) left.1) (ap (λ (xs : List ℕ). xs ++ drop count row) samples);
      count = (few, enough);
    }

-- A refusal of the unpacking is the answer; else the samples are checked, and then the room for them.
use Rattle.std.proofs.Common.{sym, ◌∙◌, length, arith}
use Rattle.std.proofs.lemmas.Grind.{common_steps}
use Rattle.record.specs.Leaf.{unpack_check}
use Rattle.record.proofs.SpectrumRead.{told, count_told, unpack_refused, unpacked, samples_left}
use Rattle.record.proofs.read_record.Goals as goal

pub returns-in_err-header : goal.returns-in_err-header
returns-in_err-header c =
    let refused = unpack_refused c.args.bytes.now (length c.args.samples.now) _ (sym c.unpack_record.ensures.value ∙ c.in_err-header.was) in
    record { value = rw refused (grind (arith, common_steps)); samples_after = rw refused }

pub returns-in_err-check_limit : goal.returns-in_err-check_limit
returns-in_err-check_limit c =
    let answer = sym c.unpack_record.ensures.value ∙ c.in_ok-header.was in
    let left = samples_left c.args.bytes.now (length c.args.samples.now) _ _ _ answer c.unpack_record.ensures.row_unpacked in
    let refused = sym c.check_limit.ensures ∙ c.in_err-check_limit.was in
    record { value = rw (left, refused) (grind (arith, common_steps)); samples_after = rw (left, refused) }

pub returns-in_err-require : goal.returns-in_err-require
returns-in_err-require c =
    let answer = sym c.unpack_record.ensures.value ∙ c.in_ok-header.was in
    let left = samples_left c.args.bytes.now (length c.args.samples.now) _ _ _ answer c.unpack_record.ensures.row_unpacked in
    let fine = sym c.check_limit.ensures ∙ c.in_ok-check_limit.was in
    let refused = sym c.require.ensures ∙ c.in_err-require.was in
    record { value = rw (left, fine) (grind (arith, common_steps)); samples_after = rw (left, fine, refused) }

pub returns : goal.returns
returns c =
    let bytes = c.args.bytes.now in
    let answer = sym c.unpack_record.ensures.value ∙ c.in_ok-header.was in
    let row = c.unpack_record.ensures.row_unpacked in
    let left = samples_left bytes (length c.args.samples.now) _ _ _ answer row in
    let fine = sym c.check_limit.ensures ∙ c.in_ok-check_limit.was in
    let room = sym c.require.ensures ∙ c.in_ok-require.was in
    record {
      value = rw (left, fine, room, (told (unpack_check bytes 531) bytes _ answer).1);
      samples_after = rw (left, fine, room, c.copy_from_slice.ensures.after, unpacked bytes (length c.args.samples.now) _ _ _ answer row, count_told (unpack_check bytes 531) bytes _ answer);
    }

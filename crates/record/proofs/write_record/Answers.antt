-- Where there is room, the header's bytes and the others are the record's.
use Rattle.std.proofs.Common.{sym, ◌∙◌, length, nat_le, arith}
use Rattle.grid.proofs.Light.{within, on_grid}
use Rattle.grid.proofs.Limit.{passed}
use Rattle.grid.specs.declared.refusals.Kind.TheVariants.{Room}
use Rattle.record.specs.Format.{length_of}
use Rattle.record.proofs.Accepted.{laid}
use Rattle.record.proofs.write_record.Goals as goal

pub length_of-length-requires : goal.length_of-length-requires
length_of-length-requires c = (on_grid _ _ _ (sym c.check_spectrum.ensures ∙ c.in_ok-check_spectrum.was)).many

pub header_bytes-requires : goal.header_bytes-requires
header_bytes-requires c =
    let grid = on_grid _ _ _ (sym c.check_spectrum.ensures ∙ c.in_ok-check_spectrum.was) in
    (grid.start_low, grid.start_high, omega arith)

pub pack-requires-clause-within : goal.pack-requires-clause-within
pack-requires-clause-within c = within _ _ _ (sym c.check_spectrum.ensures ∙ c.in_ok-check_spectrum.was)

pub overflow_cast-result : goal.overflow_cast-result
overflow_cast-result c =
    let grid = on_grid _ _ _ (sym c.check_spectrum.ensures ∙ c.in_ok-check_spectrum.was) in
    omega arith

pub returns-clause-bytes_after : goal.returns-clause-bytes_after
returns-clause-bytes_after c =
    let a = c.args.start in
    let s = c.args.step in
    let xs = c.args.samples.now in
    let fine = sym c.check_spectrum.ensures ∙ c.in_ok-check_spectrum.was in
    let room = passed (nat_le (length_of (length xs)) (length c.args.bytes.now)) Room (rw c.length_of-length.ensures at (sym c.require.ensures ∙ c.in_ok-require.was)) in
    rw (fine, room, c.copy_from_slice.ensures.after, c.header_bytes.ensures, c.pack.ensures, c.length_of-length.ensures) (laid a s xs fine c.args.bytes.now)

-- A turn stores the next two samples, and an odd last one stands behind them.
use Rattle.std.proofs.Common.{◌≡◌, ◌+◌, ◌-◌, ◌*◌, ◌/◌, length, get_or, arith}
use Rattle.std.proofs.lemmas.List.{drop_all}
use Rattle.record.specs.Bits.{Bytes}
use Rattle.record.specs.Format.{samples_of}
use Rattle.record.proofs.Fields.{samples_length, sample_pair, sample_last}
use Rattle.record.proofs.Store.{next, stored_two, stored_last, ended}
use Rattle.record.proofs.unpack.unpack.Goals as goal

pub loop-j-preserved : goal.loop-j-preserved
loop-j-preserved c =
    let bytes = c.args.bytes.now in
    let n = length c.args.row.now in
    let xs = samples_of n bytes in
    let long = samples_length n bytes in
    let j = c.loop-j.j in
    let i = 2 * j in
    let known : Bytes bytes = λ k. omega (arith, c.type_inv.bytes k) in
    let pair = sample_pair n j bytes known (omega arith) c.requires in
    let done = rw (next xs i (i + 1) (omega arith) (omega arith), next xs (i + 1) (2 * (j + 1)) (omega arith) (omega arith)) at c.loop-j.invariant in
    rw (c.from_be_bytes-number.ensures, pair.0, pair.1)
    (stored_two c.loop-j.row i xs (2 * (j + 1)) _ _ _ (omega arith) (omega arith) done)

pub returns-then-row-eq1 : goal.returns-then-row-eq1
returns-then-row-eq1 c =
    let bytes = c.args.bytes.now in
    let n = length c.args.row.now in
    let xs = samples_of n bytes in
    let long = samples_length n bytes in
    let i = length c.loop-j.row - 1 in
    let at_sample : 2 * c.loop-j.j ≡ i = omega arith in
    let last_of : i ≡ n - 1 = omega arith in
    let known : Bytes bytes = λ k. omega (arith, c.type_inv.bytes k) in
    let last : c.from_be_bytes.result / 16 ≡ get_or xs i 0 = rw last_of (omega (arith, c.from_be_bytes.ensures, sample_last n bytes known c.requires (omega arith))) in
    let done = rw (at_sample, next xs i (i + 1) (omega arith) (omega arith), drop_all (i + 1) xs (omega arith)) at c.loop-j.invariant in
    rw last (stored_last c.loop-j.row i xs _ (omega arith) done)

pub returns-else-row-eq1 : goal.returns-else-row-eq1
returns-else-row-eq1 c =
    let n = length c.args.row.now in
    let xs = samples_of n c.args.bytes.now in
    let long = samples_length n c.args.bytes.now in
    ended c.loop-j.row xs (2 * c.loop-j.j) (omega arith) (rw (drop_all (2 * c.loop-j.j) xs (omega arith)) at c.loop-j.invariant)

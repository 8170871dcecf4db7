-- A turn stores the five bytes of the next two samples, and those of an odd last one stand behind them.
use Rattle.std.proofs.Common.{◌≡◌, ◌+◌, ◌-◌, ◌*◌, ◌^◌, ◌<◌, length, length-drop, get_or, drop, arith}
use Rattle.record.proofs.Store.{stored_five, stored_last_three, ended}
use Rattle.record.proofs.Packed.{five, three, no_bytes}
use Rattle.record.proofs.pack.pack.Goals as goal

pub loop-j-preserved : goal.loop-j-preserved
loop-j-preserved c =
    let xs = c.args.samples.now in
    let j = c.loop-j.j in
    let i = 2 * j in
    let first : get_or xs i 0 < 2 ^ 20 = omega (arith, c.requires.within i) in
    let second : get_or xs (i + 1) 0 < 2 ^ 20 = omega (arith, c.requires.within (i + 1)) in
    let done = rw (five xs i (2 * (j + 1)) (omega arith) (omega arith) first second) at c.loop-j.invariant in
    rw (c.to_be_bytes.ensures)
    (stored_five c.loop-j.bytes (5 * j) _ (5 * (j + 1)) _ _ _ _ _ _ (omega arith) (omega arith) done)

pub returns-then-samples-eq1 : goal.returns-then-samples-eq1
returns-then-samples-eq1 c =
    let xs = c.args.samples.now in
    let i = length xs - 1 in
    let at = length c.loop-j.bytes - 3 in
    let at_byte : 5 * c.loop-j.j ≡ at = omega arith in
    let at_sample : 2 * c.loop-j.j ≡ i = omega arith in
    let small : get_or xs i 0 < 2 ^ 20 = omega (arith, c.requires.within i) in
    let done = rw (at_byte, at_sample, three xs i (omega arith) small) at c.loop-j.invariant in
    rw (c.to_be_bytes-then-samples-eq1.ensures) (stored_last_three c.loop-j.bytes at _ _ _ _ (omega arith) done)

pub returns-else-samples-eq1 : goal.returns-else-samples-eq1
returns-else-samples-eq1 c =
    let i = 2 * c.loop-j.j in
    let left = drop i c.args.samples.now in
    let none : length left ≡ 0 = simp length-drop (omega arith) in
    ended c.loop-j.bytes _ (5 * c.loop-j.j) (omega arith) (rw (no_bytes left none) at c.loop-j.invariant)

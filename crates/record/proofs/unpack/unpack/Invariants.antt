-- The first j pairs, and then the samples that are left, are the whole.
use Rattle.std.proofs.Common.{◌≡◌, ◌++◌, ◌*◌, length, take, drop}
use Rattle.record.specs.Format.{samples_of}
use Rattle.record.proofs.unpack.unpack.Given as goal

abbrev pub invariant-loop-j : goal.invariant-loop-j
invariant-loop-j l =
    take (2 * l.j) l.row ++ drop (2 * l.j) (samples_of (length l.initial.row) l.bytes) ≡ samples_of (length l.initial.row) l.bytes

-- The bytes of the first j pairs, and then those of the samples that are left, are the whole.
use Rattle.std.proofs.Common.{◌≡◌, ◌++◌, ◌*◌, take, drop}
use Rattle.record.specs.Leaf.{body_of}
use Rattle.record.proofs.pack.pack.Given as goal

abbrev pub invariant-loop-j : goal.invariant-loop-j
invariant-loop-j l = take (5 * l.j) l.bytes ++ body_of (drop (2 * l.j) l.samples) ≡ body_of l.samples

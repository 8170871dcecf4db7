use Rattle.std.proofs.Common.{◌+◌, ◌≡◌, ◌*◌}
use Rattle.exact.proofs.divide.Given as goal

-- what is found and what is left make the number
abbrev pub invariant-loop-rest : goal.invariant-loop-rest
invariant-loop-rest l = l.quotient * l.d + l.rest ≡ l.n

abbrev pub decreases-loop-rest : goal.decreases-loop-rest
decreases-loop-rest l = l.rest

-- The checks are the same, and the divisors are 0 together.
use Rattle.light_promises.proofs.Refused.{light_refused}
use Rattle.light_promises.proofs.lights.promise_colour_refusals.Goals as goal

pub returns : goal.returns
returns c = light_refused

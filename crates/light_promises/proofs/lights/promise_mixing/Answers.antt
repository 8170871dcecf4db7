-- Two lights that are mixed are a string of two lamps.
use Rattle.light_promises.proofs.Two.{mixing}
use Rattle.light_promises.proofs.lights.promise_mixing.Goals as goal

pub returns : goal.returns
returns c = mixing

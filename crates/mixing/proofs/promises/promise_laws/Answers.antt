-- Numerators and divisors add up as rows are mixed; the nearest quotient is compared by products, which add up too.
use Rattle.mixing.proofs.Nearest.{halves_up}
use Rattle.mixing.proofs.Illuminance.{illuminance}
use Rattle.mixing.proofs.Coordinate.{between}
use Rattle.mixing.proofs.promises.promise_laws.Goals as goal

pub returns : goal.returns
returns c = record { halves_up = halves_up; illuminance = illuminance; coordinate = between }

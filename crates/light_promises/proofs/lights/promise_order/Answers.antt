-- Each sum is linear in the samples, so lights in order have readings in order.
use Rattle.light_promises.proofs.Sums.{ordered}
use Rattle.light_promises.proofs.Instances.{amounts_of}
use Rattle.light_promises.proofs.lights.promise_order.Goals as goal

pub returns : goal.returns
returns c = amounts_of _ (λ answer sums a s xs ys p q same below i. ordered (sums a s) i xs ys p q same below)

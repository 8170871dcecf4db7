-- A string of any number of lamps keeps its promises, and so one of up to 64 does.
use Rattle.light_promises.proofs.Strings.{string_of}
use Rattle.light_promises.proofs.lights.promise_strings.Goals as goal

pub returns : goal.returns
returns c = record { any_number = string_of; ceiling = λ m any few. string_of m any }

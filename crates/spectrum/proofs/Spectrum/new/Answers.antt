-- What passes the checks is accepted.
use Rattle.std.proofs.Common.{sym, ◌∙◌}
use Rattle.grid.proofs.Light.{within_limit, on_the_grid}
use Rattle.spectrum.proofs.Spectrum.new.Goals as goal

pub invariant_of-result : goal.invariant_of-result
invariant_of-result g c =
    let fine = sym c.check_spectrum.ensures ∙ c.in_ok-check_spectrum.was in
    record { on = on_the_grid _ _ _ _ _ fine; within = within_limit _ _ _ _ _ fine }

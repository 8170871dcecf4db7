-- A grid that is accepted has no more than 531 samples.
use Rattle.std.proofs.Common.{sym, ◌∙◌}
use Rattle.grid.proofs.Accepted.{accepted}
use Rattle.grid.proofs.check_spectrum.Goals as goal

pub check_limit-requires : goal.check_limit-requires
check_limit-requires g c = (accepted _ _ _ (sym c.check_grid.ensures ∙ c.in_ok-check_grid.was)).many

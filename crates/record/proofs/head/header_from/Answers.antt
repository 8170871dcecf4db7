-- A grid that is accepted bounds the count.
use Rattle.std.proofs.Common.{sym, ◌∙◌}
use Rattle.grid.proofs.Accepted.{accepted}
use Rattle.record.proofs.head.header_from.Goals as goal

pub returns-clause-count : goal.returns-clause-count
returns-clause-count c =
    let grid = accepted _ _ _ (sym c.check_grid.ensures ∙ c.in_ok-check_grid.was) in
    (grid.some, grid.many)

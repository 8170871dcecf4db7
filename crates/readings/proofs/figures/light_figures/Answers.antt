-- The figures of the row that is laid are the light's.
use Rattle.readings.proofs.Rows.{row_figures}
use Rattle.readings.proofs.figures.light_figures.Goals as goal

pub returns : goal.returns
returns c =
    let figures = row_figures c.args.light.now c.lay.ensures.accepted c.lay.new.row c.lay.ensures.row in
    cc

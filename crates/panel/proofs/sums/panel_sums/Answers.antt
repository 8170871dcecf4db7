-- The sums of the two rows are the panel's.
use Rattle.std.proofs.Common.{◌∙◌}
use Rattle.panel.proofs.Rows.{row_sums_are}
use Rattle.panel.proofs.sums.panel_sums.Goals as goal

pub returns : goal.returns
returns c =
    c.new.ensures
    ∙ rw (c.weigh_lit.ensures.sum, c.weigh_lit-2.ensures.sum, c.weigh_lit-3.ensures.sum, c.curves-curves.ensures)
    (row_sums_are c.args.panel.now c.lay.new.row c.lay.ensures.row c.args.illuminant c.light.new.high c.light.new.low
    c.light.ensures.lit c.args.observer)

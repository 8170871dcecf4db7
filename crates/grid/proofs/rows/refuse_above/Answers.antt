-- The row is searched for what its numbers stand for.
use Rattle.std.proofs.Common.{sym, ◌∙◌}
use Rattle.grid.specs.Check.{limit_check}
use Rattle.grid.proofs.Limit.{first_above, none_above}
use Rattle.grid.proofs.rows.refuse_above.Goals as goal

pub returns-then-is_within : goal.returns-then-is_within
unfolding limit_check
returns-then-is_within g c =
    let number = g.N.Sampled in
    rw (
      first_above number.value c.args.limit c.args.row.now _ (g.met.N.Sampled.each c.args.row.now),
      none_above number.value c.args.limit c.args.row.now (sym c.is_within.ensures ∙ c.if-is_within.true),
    )

pub returns-in-Some : goal.returns-in-Some
unfolding limit_check
returns-in-Some g c =
    let number = g.N.Sampled in
    rw (
      first_above number.value c.args.limit c.args.row.now _ (g.met.N.Sampled.each c.args.row.now),
      sym c.first_above.ensures ∙ c.in-Some.is,
    )

pub returns-in-None : goal.returns-in-None
unfolding limit_check
returns-in-None g c =
    let number = g.N.Sampled in
    rw (
      first_above number.value c.args.limit c.args.row.now _ (g.met.N.Sampled.each c.args.row.now),
      sym c.first_above.ensures ∙ c.in-None.is,
    )

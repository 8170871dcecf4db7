-- What is carried at either end is T there, and the row is then laid whole.
use Rattle.std.proofs.Common.{◌≡◌, ◌-◌, length, arith, ap, sym}
use Rattle.spectrum.proofs.Lay.{low_end, high_end, lay_all}
use Rattle.spectrum.proofs.line.lay_by.Goals as goal

pub carry-requires-clause-carried : goal.carry-requires-clause-carried
carry-requires-clause-carried g c = low_end c.args.first g.row.STEP (g.N.Sampled.values c.args.part.now) c.place_of.result (omega arith)

pub carry-requires-2-clause-carried : goal.carry-requires-2-clause-carried
carry-requires-2-clause-carried g c =
    let row = c.args.part.now in
    let xs = g.N.Sampled.values row in
    let long : length xs ≡ length row = g.met.N.Sampled.long row in
    high_end c.args.first g.row.STEP xs (length row - 1) c.place_of-end.result 471 (rw long) c.requires.step_low (rw long (omega arith))

pub returns : goal.returns
returns g c = lay_all c.args.first g.row.STEP (g.N.Sampled.values c.args.part.now) _ c.carry-2.ensures

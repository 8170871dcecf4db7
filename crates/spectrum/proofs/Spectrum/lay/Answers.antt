-- The part from the sample at or just below 360 on is laid as the whole row is.
use Rattle.std.proofs.Common.{◌∙◌}
use Rattle.spectrum.proofs.Parts.{same_row}
use Rattle.spectrum.proofs.Spectrum.lay.Goals as goal

pub returns-clause-row : goal.returns-clause-row
returns-clause-row g c =
    let its = c.self.inside in
    rw (← c.self.view_is)
    (c.lay.ensures
    ∙ same_row g.N.Sampled.value g.N.Sampled.values g.met.N.Sampled.each its.start its.step its.samples.now c.self.invariant.on
    c.begin_at_360-begin.result c.begin_at_360-begin.ensures)

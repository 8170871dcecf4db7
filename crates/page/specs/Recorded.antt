-- A record's figures, or its refusal.
use Rattle.std.specs.Prelude.{Result, List, ℕ}
use Rattle.grid.specs.declared.refusals.Refusal.{Refusal}
use Rattle.grid.specs.Check.{◌>>=◌}
use Rattle.record.specs.Format.{start_of, step_of, count_of, samples_of}
use Rattle.record.specs.Answer.{record_check}
use Rattle.readings.specs.declared.figures.ReportFigures.{ReportFigures}
use Rattle.readings.specs.Readings.{figures_of}

-- the figures of the record's spectrum, where the record is accepted
unfoldable pub recorded_figures : List ℕ → Result ReportFigures Refusal
recorded_figures bytes = do
  _ ← record_check bytes
  figures_of (start_of bytes) (step_of bytes) (samples_of (count_of bytes) bytes)

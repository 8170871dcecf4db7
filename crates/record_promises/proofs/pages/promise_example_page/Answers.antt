-- The whole chain computes on the example: samples, packed record, checks, readings, page.
use Rattle.std.proofs.Common.{refl}
use Rattle.std.specs.Fmt.{digits}
use Rattle.mixing.specs.Nearest.{nearest}
use Rattle.mixing.specs.Sum.{weighted, total}
use Rattle.grid.specs.Check.{grid_check, limit_check, spectrum_check}
use Rattle.tables.specs.Tables.{table}
use Rattle.spectrum.specs.Line.{line_at, end_rule, T, W}
use Rattle.spectrum.specs.Spectrum.{spectrum_of}
use Rattle.answers.specs.Worked.{xy_from}
use Rattle.efficacy.specs.Efficacy.{at_reference}
use Rattle.readings.specs.Readings.{figures_of}
use Rattle.record.specs.Bits.{bits_of, num, pack, cut}
use Rattle.record.specs.Format.{record_of, header_of, fields_of, samples_of, padding_of}
use Rattle.record.specs.Answer.{header_check, body_check, record_check}
use Rattle.page.specs.Recorded.{recorded_figures}
use Rattle.record_promises.proofs.pages.promise_example_page.Goals as goal

pub returns : goal.returns
unfolding nearest weighted total end_rule grid_check limit_check spectrum_check spectrum_of at_reference table line_at T W xy_from figures_of bits_of num pack cut record_of header_of fields_of samples_of padding_of header_check body_check record_check digits recorded_figures
returns c = record { page = refl }

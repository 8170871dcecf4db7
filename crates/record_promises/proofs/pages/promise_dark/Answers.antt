-- The record of no light reads back as no light, whose figures are five zeros and dark.
use Rattle.std.proofs.Common.{◌≡◌, ◌∙◌, ap, List, ℕ, replicate}
use Rattle.std.specs.Fmt.{digits}
use Rattle.grid.specs.Check.{Fine, grid_check, light_check}
use Rattle.tables.specs.declared.Curve.TheVariants.{XBar, YBar, ZBar, VPrime}
use Rattle.readings.specs.Readings.{figures_of}
use Rattle.light_promises.proofs.Unlit.{zeros_accepted, zeros, no_figures}
use Rattle.record.specs.Format.{record_of}
use Rattle.record_promises.proofs.Round.{start_back, step_back, count_back, samples_back, record_accepted}
use Rattle.record_promises.specs.Pages.{dark_text}
use Rattle.page.specs.Recorded.{recorded_figures}
use Rattle.page.specs.Report.{report_of, text_of}
use Rattle.record_promises.proofs.pages.promise_dark.Goals as goal

-- the figures of an accepted spectrum's record are the spectrum's
figures_back : (a s : ℕ) (xs : List ℕ) → light_check a s xs ≡ Fine → recorded_figures (record_of a s xs) ≡ figures_of a s xs
unfolding recorded_figures
figures_back a s xs fine =
    rw (record_accepted a s xs fine, count_back a s xs fine, samples_back a s xs fine, start_back a s xs fine, step_back a s xs fine)

page : (a s n : ℕ) → grid_check a s n ≡ Fine → report_of (record_of a s (replicate n 0)) ≡ dark_text
unfolding digits
page a s n grid =
    let fine = zeros_accepted a s n grid in
    ap text_of
    (figures_back a s (replicate n 0) fine
    ∙ no_figures a s (replicate n 0) fine (zeros XBar a s n, zeros YBar a s n, zeros ZBar a s n) (zeros VPrime a s n))

pub returns : goal.returns
returns c = record { page = page }

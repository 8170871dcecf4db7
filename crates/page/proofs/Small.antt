-- The figures of a report are small: readings fit 32 bits, and a coordinate is at most 1.
use Rattle.std.proofs.Common.{◌≡◌, refl, Result, Ok, Err, List, ℕ, ◌≤◌}
use Rattle.grid.specs.declared.refusals.Refusal.{Refusal}
use Rattle.grid.specs.Check.{Check, Fine, ◌>>=◌, light_check}
use Rattle.grid.specs.Said.{value}
use Rattle.grid.proofs.Light.{within, on_grid}
use Rattle.spectrum.specs.Spectrum.{spectrum_of}
use Rattle.answers.specs.declared.Xy.{Xy}
use Rattle.answers.specs.Said.{said_xy}
use Rattle.answers.proofs.Values.{xy_most}
use Rattle.readings.specs.declared.figures.ReportFigures.{ReportFigures}
use Rattle.readings.specs.Readings.{light_figures, figures_of}
use Rattle.readings.proofs.Small.{figures_most}
use Rattle.record.specs.Format.{start_of, step_of, count_of, samples_of}
use Rattle.record.specs.Answer.{record_check}
use Rattle.page.specs.Recorded.{recorded_figures}

abbrev largest : ℕ
largest = 4294967295

abbrev pub SmallXy : Result Xy Refusal → Type 0
SmallXy xy = (i : ℕ) → value (said_xy xy) i ≤ 100000

pub record Small (f : ReportFigures) : Type 0 where
  pub photopic : f.photopic ≤ largest
  pub scotopic : f.scotopic ≤ largest
  pub x : f.xyz.x ≤ largest
  pub y : f.xyz.y ≤ largest
  pub z : f.xyz.z ≤ largest
  pub xy : SmallXy f.xy

abbrev pub SmallFigures : Result ReportFigures Refusal → Type 0
SmallFigures (Ok f) = Small f
SmallFigures (Err r) = Unit {0}

module _ (a s : ℕ) (xs : List ℕ) where
  light_small : light_check a s xs ≡ Fine → Small (light_figures a s xs)
  light_small fine =
      let most = figures_most a s xs (record { on = on_grid a s xs fine; within = within a s xs fine }) in
      record { photopic = most.0; scotopic = most.1; x = most.2; y = most.3; z = most.4; xy = xy_most _ _ _ }

  figures_small : SmallFigures (figures_of a s xs)
  unfolding figures_of spectrum_of
  figures_small = go (light_check a s xs) refl
    where
      go : (c : Check) → light_check a s xs ≡ c → SmallFigures (figures_of a s xs)
      go (Ok _) e = rw e (light_small e)
      go (Err r) e = rw e tt

pub recorded_small : (bytes : List ℕ) → SmallFigures (recorded_figures bytes)
unfolding recorded_figures
recorded_small bytes = go (record_check bytes)
  where
    go : (c : Check) → SmallFigures (c >>= (λ _. figures_of (start_of bytes) (step_of bytes) (samples_of (count_of bytes) bytes)))
    go (Ok _) = figures_small _ _ _
    go (Err r) = tt

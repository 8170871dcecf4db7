-- Of a record that is unpacked only its samples are left to check, and its figures refuse them as the record's own check does.
use Rattle.std.proofs.Common.{◌≡◌, refl, sym, ap, ◌∙◌, Ok, Err, List, ℕ, ◌++◌, length, take, drop}
use Rattle.grid.specs.declared.refusals.Refusal.{Refusal}
use Rattle.grid.specs.Check.{Check, Fine, ◌>>=◌, unless, grid_check, samples_check, spectrum_check}
use Rattle.record.specs.declared.Header.{Header}
use Rattle.record.specs.Format.{start_of, step_of, count_of, samples_of}
use Rattle.record.specs.Answer.{header_read}
use Rattle.record.specs.Leaf.{unpack_check, unpack_answer}
use Rattle.record.proofs.Fields.{samples_length}
use Rattle.record.proofs.Reading.{unpack_fine, record_split, answer_refused}
use Rattle.record.proofs.SpectrumRead.{told, spectrum_told}
use Rattle.spectrum.specs.Spectrum.{spectrum_of}
use Rattle.readings.specs.Readings.{figures_of}
use Rattle.page.specs.Recorded.{recorded_figures}

-- the figures refuse the samples themselves, so nothing is lost where they alone do
samples_once : (a s : ℕ) (xs : List ℕ) → grid_check a s (length xs) ≡ Fine → (samples_check xs >>= (λ _. figures_of a s xs)) ≡ figures_of a s xs
unfolding figures_of spectrum_of spectrum_check
samples_once a s xs grid = go (samples_check xs) refl
  where
    go : (c : Check) → samples_check xs ≡ c → (samples_check xs >>= (λ _. figures_of a s xs)) ≡ figures_of a s xs
    go (Ok _) e = rw e
    go (Err r) e = rw (e, grid)

module _ (bytes : List ℕ) where
  pub unpack_refused : (r : Refusal) → unpack_answer bytes 531 ≡ Err r → recorded_figures bytes ≡ Err r
  unfolding recorded_figures
  unpack_refused r e = rw (record_split bytes, answer_refused (unpack_check bytes 531) (header_read bytes) r e)

  pub unpack_given :
      (row lent : List ℕ) (h : Header) → unpack_answer bytes 531 ≡ Ok h →
      row ≡ unless (unpack_check bytes 531) lent (samples_of (count_of bytes) bytes ++ drop (count_of bytes) lent) →
      recorded_figures bytes ≡ figures_of h.start h.step (take h.count row)
  unfolding recorded_figures
  unpack_given row lent h e f =
      let fine = (told (unpack_check bytes 531) bytes h e).0 in
      let xs = samples_of (count_of bytes) bytes in
      let grid : grid_check (start_of bytes) (step_of bytes) (length xs) ≡ Fine =
      ap (grid_check (start_of bytes) (step_of bytes)) (samples_length (count_of bytes) bytes) ∙ (unpack_fine bytes 531 fine).0.grid in
      rw (record_split bytes, fine)
      (samples_once (start_of bytes) (step_of bytes) xs grid
      ∙ sym (spectrum_told (unpack_check bytes 531) bytes h e lent figures_of)
      ∙ ap (λ (ys : List ℕ). figures_of h.start h.step (take h.count ys)) (sym f))

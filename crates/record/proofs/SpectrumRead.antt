-- What is read of an accepted record is the spectrum whose record it is.
use Rattle.std.proofs.Common.{◌≡◌, ap, ap₂, ◌∙◌, Ok, Err, Result, List, ℕ, ◌++◌, length, take, drop}
use Rattle.std.proofs.Math.Seq.{take_at}
use Rattle.grid.specs.declared.refusals.Refusal.{Refusal}
use Rattle.grid.specs.Said.{Said}
use Rattle.grid.specs.Check.{Check, Fine, ◌>>=◌, unless, samples_check}
use Rattle.grid.proofs.Limit.{both_fine}
use Rattle.record.specs.Format.{start_of, step_of, count_of, samples_of}
use Rattle.record.specs.Answer.{record_check, read_check, room_check, header, header_read, read_answer, row_after}
use Rattle.record.specs.Leaf.{unpack_check, unpack_answer}
use Rattle.record.specs.Said.{read_as, said_read}
use Rattle.record.specs.declared.Header.{Header}
use Rattle.record.proofs.Fields.{samples_length}
use Rattle.record.proofs.Reading.{record_split, answer_refused, answer_given}

-- an answer that says that a record was read, has read it
pub was_read : (answer : Result Header Refusal) (a s n : ℕ) → said_read answer ≡ read_as a s n → answer ≡ Ok (header a s n)
was_read (Ok h) a s n e =
    let values = ap (λ (said : Said). said.values) e in
    let start : h.start ≡ a = cc in
    let step : h.step ≡ s = cc in
    let count : h.count ≡ n = cc in
    rw (← start, ← step, ← count)
was_read (Err r) a s n e = absurd (let values = ap (λ (said : Said). said.values) e in cc)

-- a record that a check accepts, whatever else it looks at, and the row then
module _ (check : Check) (bytes : List ℕ) (h : Header) (e : (check >>= (λ _. Ok (header_read bytes))) ≡ Ok h) where
  pub told : (check ≡ Fine) × (h ≡ header_read bytes)
  told = answer_given check (header_read bytes) h e

  pub count_told : h.count ≡ count_of bytes
  count_told = ap (λ (g : Header). g.count) told.1

  pub samples_told :
      (row : List ℕ) →
      take h.count (unless check row (samples_of (count_of bytes) bytes ++ drop (count_of bytes) row)) ≡ samples_of (count_of bytes) bytes
  samples_told row =
      let n = count_of bytes in
      rw (count_told, told.0) (take_at (samples_of n bytes) (drop n row) n (samples_length n bytes))

  pub spectrum_told :
      (row : List ℕ) {A : Type 0} (f : ℕ → ℕ → List ℕ → A) →
      f h.start h.step (take h.count (unless check row (samples_of (count_of bytes) bytes ++ drop (count_of bytes) row)))
      ≡ f (start_of bytes) (step_of bytes) (samples_of (count_of bytes) bytes)
  spectrum_told row f = ap₂ (λ (g : Header) (xs : List ℕ). f g.start g.step xs) told.1 (samples_told row)

-- what unpacking into 531 places leaves to check
module _ (bytes : List ℕ) (room : ℕ) where
  pub unpack_refused : (r : Refusal) → unpack_answer bytes 531 ≡ Err r → read_check bytes room ≡ Err r
  unpack_refused r e = rw (record_split bytes, answer_refused (unpack_check bytes 531) (header_read bytes) r e)

  module _ (row lent : List ℕ) (h : Header) (e : unpack_answer bytes 531 ≡ Ok h)
      (f : row ≡ unless (unpack_check bytes 531) lent (samples_of (count_of bytes) bytes ++ drop (count_of bytes) lent)) where
    pub unpacked : take h.count row ≡ samples_of (count_of bytes) bytes
    unpacked = ap (take h.count) f ∙ samples_told (unpack_check bytes 531) bytes h e lent

    pub samples_left : read_check bytes room ≡ (samples_check (take h.count row) >>= (λ _. room_check h.count room))
    samples_left =
        rw (record_split bytes, (told (unpack_check bytes 531) bytes h e).0, unpacked, count_told (unpack_check bytes 531) bytes h e)

-- a record that the reader accepts
module _ (bytes row : List ℕ) (h : Header) (e : read_answer bytes (length row) ≡ Ok h) where
  pub fine : record_check bytes ≡ Fine
  fine = (both_fine (record_check bytes) (room_check (count_of bytes) (length row)) (told (read_check bytes (length row)) bytes h e).0).0

  pub same_spectrum :
      {A : Type 0} (f : ℕ → ℕ → List ℕ → A) →
      f h.start h.step (take h.count (row_after bytes row)) ≡ f (start_of bytes) (step_of bytes) (samples_of (count_of bytes) bytes)
  same_spectrum = spectrum_told (read_check bytes (length row)) bytes h e row

-- What was read is an accepted spectrum, whose record is the very bytes.
use mathlib.Core.Path.{◌≡◌, sym, ap, ap₂, ◌∙◌}
use mathlib.Core.List.{List, ◌++◌}
use Prim.Native.Nat.{ℕ, ◌≤◌}
use lib.ListN.{length, take, drop}
use Rattle.record.specs.Bits.{Bytes}
use Rattle.record.specs.Format.{length_of, start_of, step_of, count_of, samples_of}
use Rattle.record.specs.Answer.{header, read_answer, row_after, write_answer, bytes_after}
use Rattle.record.specs.Said.{read_as, wrote, said_read, said_written}
use Rattle.record.proofs.Fields.{samples_length}
use Rattle.record.proofs.Reading.{record_fine}
use Rattle.record_promises.proofs.Round.{spectrum_accepted, bytes_again, written}
use Rattle.record.proofs.SpectrumRead.{was_read, fine, same_spectrum}
use Rattle.record_promises.proofs.records.promise_written_back.Goals as goal

written_again :
    (bytes row lent : List ℕ) (a s n : ℕ) → Bytes bytes → said_read (read_answer bytes (length row)) ≡ read_as a s n →
    length bytes ≤ length lent →
    (said_written (write_answer a s (take n (row_after bytes row)) (length lent)) ≡ wrote (length bytes))
    × (bytes_after a s (take n (row_after bytes row)) lent ≡ bytes ++ drop (length bytes) lent)
written_again bytes row lent a s n known e room =
    let h = header a s n in
    let read = was_read (read_answer bytes (length row)) a s n e in
    let good = fine bytes row h read in
    let xs = samples_of (count_of bytes) bytes in
    let long : length_of (length xs) ≡ length bytes = ap length_of (samples_length (count_of bytes) bytes) ∙ sym (record_fine bytes good).1.whole in
    let done = written (start_of bytes) (step_of bytes) xs (spectrum_accepted bytes good) lent (rw long room) in (
      same_spectrum bytes row h read (λ a s ys. said_written (write_answer a s ys (length lent))) ∙ done.0 ∙ ap wrote long,
      same_spectrum bytes row h read (λ a s ys. bytes_after a s ys lent)
          ∙ done.1
          ∙ ap₂ (λ (b : List ℕ) (k : ℕ). b ++ drop k lent) (bytes_again bytes good known) long,
    )

pub returns : goal.returns
returns c =
    record {
      answer = λ bytes row lent a s n known e room. (written_again bytes row lent a s n known e room).0;
      bytes = λ bytes row lent a s n known e room. (written_again bytes row lent a s n known e room).1;
    }

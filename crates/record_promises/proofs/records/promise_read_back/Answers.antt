-- A written record's fields are the spectrum's, so its checks pass and its samples are those that were written.
use mathlib.Core.Path.{◌≡◌}
use mathlib.Core.List.{List, ◌++◌}
use Prim.Native.Nat.{ℕ, ◌≤◌}
use borrow.Author.Tests.{le-leb}
use lib.ListN.{length, drop}
use Rattle.grid.specs.Check.{Fine, light_check}
use Rattle.record.specs.Format.{record_of}
use Rattle.record.specs.Answer.{read_answer, row_after}
use Rattle.record.specs.Said.{read_as, said_read}
use Rattle.record_promises.proofs.Round.{start_back, step_back, count_back, samples_back, record_accepted, written}
use Rattle.record_promises.proofs.records.promise_read_back.Goals as goal

read :
    (a s : ℕ) (xs row : List ℕ) → light_check a s xs ≡ Fine → length xs ≤ length row →
    (said_read (read_answer (record_of a s xs) (length row)) ≡ read_as a s (length xs))
    × (row_after (record_of a s xs) row ≡ xs ++ drop (length xs) row)
read a s xs row fine room =
    let e = le-leb (length xs) (length row) room in
    let n = count_back a s xs fine in (
      rw (record_accepted a s xs fine, n, e, start_back a s xs fine, step_back a s xs fine),
      rw (record_accepted a s xs fine, n, e, samples_back a s xs fine),
    )

pub returns : goal.returns
returns c = record { written = λ a s xs bytes fine room. written a s xs fine bytes room; read = read }

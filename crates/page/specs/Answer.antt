-- What writing a report answers, and what the lent text then holds.
use Rattle.std.specs.Prelude.{Result, Ok, List, ◌++◌, ℕ, length, drop}
use Rattle.grid.specs.declared.refusals.Refusal.{Refusal}
use Rattle.grid.specs.Check.{Check, ◌>>=◌, unless}
use Rattle.record.specs.Answer.{room_check}
use Rattle.page.specs.Report.{report_of}

-- ROOM, the only refusal: what is wrong with a record stands in its report
abbrev pub report_check : List ℕ → ℕ → Check
report_check bytes room = room_check (length (report_of bytes)) room

-- the length written, or the refusal
abbrev pub report_answer : List ℕ → ℕ → Result ℕ Refusal
report_answer bytes room = do
  _ ← report_check bytes room
  Ok (length (report_of bytes))

-- exactly the report, and nothing behind it; a refusal leaves the text as it was
abbrev pub text_after : List ℕ → List ℕ → List ℕ
text_after bytes text = unless (report_check bytes (length text)) text (report_of bytes ++ drop (length (report_of bytes)) text)

-- What reading and writing a record answer, and what the lent samples or bytes then hold.
use Rattle.std.specs.Prelude.{Result, Ok, List, ◌++◌, ℕ, length, drop, nat_le, nat_eq}
use Rattle.grid.specs.declared.refusals.Kind.TheVariants.{Edition, Reserved, Length, Padding, Room}
use Rattle.grid.specs.declared.refusals.Refusal.{Refusal}
use Rattle.grid.specs.Check.{Check, ◌>>=◌, require, unless, grid_check, samples_check, light_check}
use Rattle.record.specs.Format.{edition_of, reserved_of, start_of, step_of, count_of, samples_of, padding_of, length_of, record_of}
use Rattle.record.specs.declared.Header.{Header}

-- LENGTH where under 3 bytes, EDITION, RESERVED, START, COUNT
unfoldable pub header_check : List ℕ → Check
header_check bytes = do
  _ ← require (nat_le 3 (length bytes)) Length
  _ ← require (nat_eq (edition_of bytes) 1) Edition
  _ ← require (nat_eq (reserved_of bytes) 0) Reserved
  grid_check (start_of bytes) (step_of bytes) (count_of bytes)

-- LENGTH, PADDING, SAMPLE of a record with n samples
unfoldable pub body_check : ℕ → List ℕ → Check
body_check n bytes = do
  _ ← require (nat_eq (length bytes) (length_of n)) Length
  _ ← require (nat_eq (padding_of n bytes) 0) Padding
  samples_check (samples_of n bytes)

-- whether the record itself is accepted
unfoldable pub record_check : List ℕ → Check
record_check bytes = do
  _ ← header_check bytes
  body_check (count_of bytes) bytes

-- ROOM: the buffer to be written is too short
abbrev pub room_check : ℕ → ℕ → Check
room_check needed room = require (nat_le needed room) Room

-- for reading a record: 12 where under 3 bytes, then 10, 11, 2, 3, 12, 13, 4, 14
abbrev pub read_check : List ℕ → ℕ → Check
read_check bytes room = do
  _ ← record_check bytes
  room_check (count_of bytes) room

abbrev pub header : ℕ → ℕ → ℕ → Header
header a s n = record { start = a; step = s; count = n }

-- start, step and count, as a record's header says
abbrev pub header_read : List ℕ → Header
header_read bytes = header (start_of bytes) (step_of bytes) (count_of bytes)

-- start, step and count, or the refusal
abbrev pub read_answer : List ℕ → ℕ → Result Header Refusal
read_answer bytes room = do
  _ ← read_check bytes room
  Ok (header_read bytes)

-- exactly count samples, and nothing behind them; a refusal leaves the row as it was
abbrev pub row_after : List ℕ → List ℕ → List ℕ
row_after bytes row = unless (read_check bytes (length row)) row (samples_of (count_of bytes) bytes ++ drop (count_of bytes) row)

-- for writing: 1, 2, 3, 4, 14
abbrev pub write_check : ℕ → ℕ → List ℕ → ℕ → Check
write_check a s xs room = do
  _ ← light_check a s xs
  room_check (length_of (length xs)) room

-- the length written, or the refusal
abbrev pub write_answer : ℕ → ℕ → List ℕ → ℕ → Result ℕ Refusal
write_answer a s xs room = do
  _ ← write_check a s xs room
  Ok (length_of (length xs))

-- exactly the record's bytes, and nothing behind them; a refusal leaves the bytes as they were
abbrev pub bytes_after : ℕ → ℕ → List ℕ → List ℕ → List ℕ
bytes_after a s xs bytes = unless (write_check a s xs (length bytes)) bytes (record_of a s xs ++ drop (length_of (length xs)) bytes)

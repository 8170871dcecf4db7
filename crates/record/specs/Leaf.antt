-- What the inner functions are said to give, and the unpacking below the reader: no promise to a caller rests on the reading of these.
use Rattle.std.specs.Prelude.{Result, Ok, List, ◌++◌, ℕ, ◌+◌, ◌*◌, ◌/◌, ◌%◌, length, drop, nat_eq}
use Rattle.grid.specs.declared.refusals.Kind.TheVariants.{Edition, Reserved, Length, Padding}
use Rattle.grid.specs.declared.refusals.Refusal.{Refusal}
use Rattle.grid.specs.Check.{Check, ◌>>=◌, require, unless, grid_check}
use Rattle.record.specs.Bits.{pack, cut, bytewise}
use Rattle.record.specs.Format.{header_widths, header_fields, body_widths, body_fields, step_of_code, count_of, samples_of, padding_of, length_of}
use Rattle.record.specs.Answer.{header_check, room_check, header, header_read}
use Rattle.record.specs.declared.Header.{Header}

-- the three bytes of a record's header
unfoldable pub header_bytes : ℕ → ℕ → ℕ → List ℕ
header_bytes a s n = cut (bytewise 3) (pack header_widths (header_fields a s n))

-- the bytes behind the header
unfoldable pub body_of : List ℕ → List ℕ
body_of xs = cut (bytewise ((5 * length xs + 1) / 2)) (pack (body_widths (length xs)) (body_fields xs))

-- what the header alone answers
abbrev pub header_answer : List ℕ → Result Header Refusal
header_answer bytes = do
  _ ← header_check bytes
  Ok (header_read bytes)

-- what one answers whose three bytes make this number: EDITION, RESERVED, START, COUNT
abbrev pub header_from : ℕ → Result Header Refusal
header_from number =
    let start = 300 + number / 2048 % 128 in
    let step = step_of_code (number / 262144 % 4) in
    let count = number / 2 % 1024 in do
      _ ← require (nat_eq (number / 1048576) 1) Edition
      _ ← require (nat_eq (number % 2) 0) Reserved
      _ ← grid_check start step count
      Ok (header start step count)

-- LENGTH, PADDING, ROOM of a record with n samples
unfoldable pub shape_check : ℕ → List ℕ → ℕ → Check
shape_check n bytes room = do
  _ ← require (nat_eq (length bytes) (length_of n)) Length
  _ ← require (nat_eq (padding_of n bytes) 0) Padding
  room_check n room

-- every check of reading a record but that of its samples
unfoldable pub unpack_check : List ℕ → ℕ → Check
unpack_check bytes room = do
  _ ← header_check bytes
  shape_check (count_of bytes) bytes room

-- what unpacking answers
abbrev pub unpack_answer : List ℕ → ℕ → Result Header Refusal
unpack_answer bytes room = do
  _ ← unpack_check bytes room
  Ok (header_read bytes)

-- the row then; a refusal leaves it as it was
abbrev pub row_unpacked : List ℕ → List ℕ → List ℕ
row_unpacked bytes row = unless (unpack_check bytes (length row)) row (samples_of (count_of bytes) bytes ++ drop (count_of bytes) row)

-- The packed record, field by field, as the rules print it.
use Rattle.std.specs.Prelude.{cond, List, [], ◌∷◌, ◌++◌, ℕ, ◌+◌, ◌*◌, ◌-◌, ◌/◌, ◌%◌, length, take, drop, get_or, replicate, eqb}
use Rattle.record.specs.Bits.{pack, cut, bytewise, bits_of_bytes}

-- edition 4 bits; step code 2 bits; start minus 300 in 7 bits; n in 10 bits; one reserved bit
abbrev pub header_widths : List ℕ
header_widths = 4 ∷ 2 ∷ 7 ∷ 10 ∷ 1 ∷ []

-- then n samples of 20 bits; then 4 padding bits where n is odd
abbrev pub body_widths : ℕ → List ℕ
body_widths n = replicate n 20 ++ replicate (n % 2) 4

-- step code 0, 1, 2, 3 for 1, 2, 5, 10
abbrev pub code_of : ℕ → ℕ
code_of s = cond (eqb s 1) 0 (cond (eqb s 2) 1 (cond (eqb s 5) 2 3))

abbrev pub step_of_code : ℕ → ℕ
step_of_code code = cond (eqb code 0) 1 (cond (eqb code 1) 2 (cond (eqb code 2) 5 10))

-- edition 1, the step's code, start minus 300, n, and the reserved bit 0
abbrev pub header_fields : ℕ → ℕ → ℕ → List ℕ
header_fields a s n = 1 ∷ code_of s ∷ (a - 300) ∷ n ∷ 0 ∷ []

-- the samples, and padding bits 0 where n is odd
abbrev pub body_fields : List ℕ → List ℕ
body_fields xs = xs ++ replicate (length xs % 2) 0

-- the length is 3 + 5n/2 bytes, rounded up
abbrev pub length_of : ℕ → ℕ
length_of n = 3 + (5 * n + 1) / 2

-- the bytes of the record of a spectrum: its fields packed, and cut into bytes
unfoldable pub record_of : ℕ → ℕ → List ℕ → List ℕ
record_of a s xs = cut (bytewise (length_of (length xs))) (pack (header_widths ++ body_widths (length xs)) (header_fields a s (length xs) ++ body_fields xs))

-- the fields of a record's header, and of a record with n samples: its bits cut by their widths
unfoldable pub header_of : List ℕ → List ℕ
header_of bytes = cut header_widths (bits_of_bytes bytes)

unfoldable pub fields_of : ℕ → List ℕ → List ℕ
fields_of n bytes = cut (header_widths ++ body_widths n) (bits_of_bytes bytes)

abbrev pub edition_of : List ℕ → ℕ
edition_of bytes = get_or (header_of bytes) 0 0

abbrev pub step_of : List ℕ → ℕ
step_of bytes = step_of_code (get_or (header_of bytes) 1 0)

abbrev pub start_of : List ℕ → ℕ
start_of bytes = 300 + get_or (header_of bytes) 2 0

abbrev pub count_of : List ℕ → ℕ
count_of bytes = get_or (header_of bytes) 3 0

abbrev pub reserved_of : List ℕ → ℕ
reserved_of bytes = get_or (header_of bytes) 4 0

-- the n fields behind the header's five, and the one behind them, if there is one
unfoldable pub samples_of : ℕ → List ℕ → List ℕ
samples_of n bytes = take n (drop 5 (fields_of n bytes))

unfoldable pub padding_of : ℕ → List ℕ → ℕ
padding_of n bytes = get_or (fields_of n bytes) (5 + n) 0

-- Where the fields of a record stand: the header in its first three bytes, each sample and the padding in three bytes of their own.
use mathlib.Core.Path.{◌≡◌, refl, sym, ap, ◌∙◌}
use mathlib.Core.List.{List, [], ◌∷◌, ◌++◌}
use Prim.Native.Nat.{ℕ, zero, suc, ◌+◌, ◌*◌, ◌-◌, ◌/◌, ◌%◌, ◌^◌, ◌≤◌, ◌<◌}
use native.Mathlib.Nat.{div-add-mod'}
use native.Mathlib.Omega.{arith}
use lib.ListN.{length, take, drop, get_or, replicate, length-replicate}
use lib.Seq.{drop-cons, take_at, drop-drop, get_or-append-add}
use Rattle.record.specs.Bits.{num, cut, bits_of_bytes, Bytes}
use Rattle.record.specs.Format.{header_widths, body_widths, header_of, fields_of, samples_of, padding_of, length_of}
use Rattle.record.proofs.Rows.{widths_sum_replicate, length_cut, cut_append, digits, cut_digits, get_d_cut}
use Rattle.record.proofs.Window.{number, front, window, three_at, three_number}

pub header_digits : (bytes : List ℕ) → Bytes bytes → 3 ≤ length bytes → header_of bytes ≡ digits header_widths (three_at bytes 0)
unfolding header_of
header_digits bytes h l =
    ap (cut header_widths) (front 3 bytes h l)
    ∙ cut_digits header_widths (number 3 bytes) (bits_of_bytes (drop 3 bytes))
    ∙ ap (digits header_widths) (three_number 0 bytes l)

pub length_header : (bytes : List ℕ) → length (header_of bytes) ≡ 5
unfolding header_of
length_header bytes = length_cut header_widths (bits_of_bytes bytes)

-- the header's fields, then the others
pub fields_split : (n : ℕ) (bytes : List ℕ) → fields_of n bytes ≡ header_of bytes ++ cut (body_widths n) (drop 24 (bits_of_bytes bytes))
unfolding fields_of header_of
fields_split n bytes = cut_append header_widths (body_widths n) (bits_of_bytes bytes)

pub body_split :
    (n : ℕ) (bits : List ℕ) → cut (body_widths n) bits ≡ cut (replicate n 20) bits ++ cut (replicate (n % 2) 4) (drop (20 * n) bits)
body_split n bits =
    cut_append (replicate n 20) (replicate (n % 2) 4) bits
    ∙ ap (λ (k : ℕ). cut (replicate n 20) bits ++ cut (replicate (n % 2) 4) (drop k bits)) (widths_sum_replicate n 20)

length_samples : (n : ℕ) (bits : List ℕ) → length (cut (replicate n 20) bits) ≡ n
length_samples n bits = length_cut (replicate n 20) bits ∙ length-replicate n 20

pub samples_cut : (n : ℕ) (bytes : List ℕ) → samples_of n bytes ≡ cut (replicate n 20) (drop 24 (bits_of_bytes bytes))
unfolding samples_of header_of cut
samples_cut n bytes =
    let bits = drop 24 (bits_of_bytes bytes) in
    ap (λ (r : List ℕ). take n (drop 5 r)) (fields_split n bytes ∙ ap (λ (r : List ℕ). header_of bytes ++ r) (body_split n bits))
    ∙ take_at (cut (replicate n 20) bits) (cut (replicate (n % 2) 4) (drop (20 * n) bits)) n (length_samples n bits)

pub samples_length : (n : ℕ) (bytes : List ℕ) → length (samples_of n bytes) ≡ n
samples_length n bytes = ap length (samples_cut n bytes) ∙ length_samples n (drop 24 (bits_of_bytes bytes))

pub padding_cut : (n : ℕ) (bytes : List ℕ) → padding_of n bytes ≡ get_or (cut (replicate (n % 2) 4) (drop (20 * n) (drop 24 (bits_of_bytes bytes)))) 0 0
unfolding padding_of
padding_cut n bytes =
    let bits = drop 24 (bits_of_bytes bytes) in
    let pad = cut (replicate (n % 2) 4) (drop (20 * n) bits) in
    let samples = cut (replicate n 20) bits in
    let e : length (header_of bytes) + (length samples + 0) ≡ 5 + n = rw (length_header, length_samples) (omega arith) in
    ap (λ (r : List ℕ). get_or r (5 + n) 0) (fields_split n bytes ∙ ap (λ (r : List ℕ). header_of bytes ++ r) (body_split n bits))
    ∙ ap (λ (k : ℕ). get_or (header_of bytes ++ (samples ++ pad)) k 0) (sym e)
    ∙ get_or-append-add (header_of bytes) (samples ++ pad) (length samples + 0) 0
    ∙ get_or-append-add samples pad 0 0

-- five halves of a number, rounded down and up
halves : (k r : ℕ) → r < 2 → (5 * (k * 2 + r) / 2 ≡ 5 * k + 2 * r) × ((5 * (k * 2 + r) + 1) / 2 ≡ 5 * k + 3 * r)
halves k zero h = (omega arith, omega arith)
halves k (suc zero) h = (omega arith, omega arith)
halves k (suc (suc r)) h = absurd (omega arith)

pub five_halves : (k : ℕ) → (5 * k / 2 ≡ 5 * (k / 2) + 2 * (k % 2)) × ((5 * k + 1) / 2 ≡ 5 * (k / 2) + 3 * (k % 2))
five_halves k = rw (div-add-mod' k 2) at (halves (k / 2) (k % 2) (omega arith))

-- sample k lies in the three bytes from 3 + 5k/2 on, behind no bit of theirs or behind four
sample_window :
    (n k r t : ℕ) (bytes : List ℕ) → Bytes bytes → k < n → length bytes ≡ length_of n → 4 * (k % 2) ≡ r → r + t ≡ 4 →
    get_or (samples_of n bytes) k 0 ≡ three_at bytes (3 + 5 * k / 2) / 2 ^ t % 2 ^ 20
sample_window n k r t bytes h l e p q =
    let f = five_halves k in
    let place : 24 + 20 * k ≡ 8 * (3 + 5 * k / 2) + r = omega arith in
    ap (λ (xs : List ℕ). get_or xs k 0) (samples_cut n bytes)
    ∙ get_d_cut n 20 k (drop 24 (bits_of_bytes bytes)) l
    ∙ ap (λ (bits : List ℕ). num (take 20 bits)) (drop-drop (20 * k) 24 (bits_of_bytes bytes) ∙ ap (λ (x : ℕ). drop x (bits_of_bytes bytes)) place)
    ∙ window 3 (3 + 5 * k / 2) r 20 t bytes h (omega arith) (omega arith)
    ∙ ap (λ (x : ℕ). x / 2 ^ t % 2 ^ 20) (three_number (3 + 5 * k / 2) bytes (omega arith))

-- the four bytes from a place on, as one number
abbrev pub four_at : List ℕ → ℕ → ℕ
four_at bytes at = get_or bytes at 0 * 16777216 + get_or bytes (at + 1) 0 * 65536 + get_or bytes (at + 2) 0 * 256 + get_or bytes (at + 3) 0

-- the two samples of a pair, out of the number that four of its five bytes make, and the fifth
pub sample_pair :
    (n j : ℕ) (bytes : List ℕ) → Bytes bytes → 2 * j + 1 < n → length bytes ≡ length_of n →
    (four_at bytes (3 + 5 * j) / 4096 ≡ get_or (samples_of n bytes) (2 * j) 0)
    × (four_at bytes (3 + 5 * j) % 4096 * 256 + get_or bytes (3 + 5 * j + 4) 0 ≡ get_or (samples_of n bytes) (2 * j + 1) 0)
sample_pair n j bytes h l e =
    let at = 3 + 5 * j in
    let here : 3 + 5 * (2 * j) / 2 ≡ at = omega arith in
    let there : 3 + 5 * (2 * j + 1) / 2 ≡ at + 2 = omega arith in
    let third : at + 2 + 1 ≡ at + 3 = omega arith in
    let fourth : at + 2 + 2 ≡ at + 4 = omega arith in
    let first = rw here at (sample_window n (2 * j) 0 4 bytes h (omega arith) e (omega arith) refl) in
    let second = rw (there, third, fourth) at (sample_window n (2 * j + 1) 4 0 bytes h l e (omega arith) refl) in
    (omega (arith, first, h at, h (at + 1), h (at + 2), h (at + 3)), omega (arith, second, h (at + 3), h (at + 4)))

-- an odd last sample, out of the last three bytes
pub sample_last :
    (n : ℕ) (bytes : List ℕ) → Bytes bytes → length bytes ≡ length_of n → n % 2 ≡ 1 →
    three_at bytes (length bytes - 3) / 16 ≡ get_or (samples_of n bytes) (n - 1) 0
sample_last n bytes h e odd =
    let j = n / 2 in
    let at = length bytes - 3 in
    let even : n - 1 ≡ 2 * j = omega arith in
    let here : 3 + 5 * (2 * j) / 2 ≡ at = omega arith in
    let last = rw here at (sample_window n (2 * j) 0 4 bytes h (omega arith) e (omega arith) refl) in
    rw even (omega (arith, last, h at, h (at + 1), h (at + 2)))

-- the padding, where there is some, is the low half of the last byte
pub padding_even : (n : ℕ) (bytes : List ℕ) → n % 2 ≡ 0 → padding_of n bytes ≡ 0
unfolding cut
padding_even n bytes e = rw (padding_cut, e)

pub padding_odd :
    (n : ℕ) (bytes : List ℕ) → Bytes bytes → 1 ≤ n → length bytes ≡ length_of n → n % 2 ≡ 1 →
    padding_of n bytes ≡ get_or bytes (length bytes - 1) 0 % 16
unfolding cut
padding_odd n bytes h l e p =
    let q = length bytes - 1 in
    let f = five_halves n in
    let place : 24 + 20 * n ≡ 8 * q + 4 = omega arith in
    let last : take 1 (drop q bytes) ≡ get_or bytes q 0 ∷ [] = ap (take 1) (drop-cons bytes q 0 (omega arith)) in
    rw (padding_cut, p)
    (ap (λ (bits : List ℕ). num (take 4 bits)) (drop-drop (20 * n) 24 (bits_of_bytes bytes) ∙ ap (λ (x : ℕ). drop x (bits_of_bytes bytes)) place)
    ∙ window 1 q 4 4 0 bytes h (omega arith) refl
    ∙ rw last (omega arith))

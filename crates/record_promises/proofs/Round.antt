-- Writing and reading undo each other: the fields of a record are those of its spectrum, packed into bytes and cut again.
use mathlib.Core.Path.{◌≡◌, refl, sym, ap, ap₂, ◌∙◌}
use mathlib.Core.Logic.{⊎_elim}
use mathlib.Core.Bool.{true}
use mathlib.Core.List.{List, [], ◌∷◌, ◌++◌}
use Prim.Native.Nat.{ℕ, zero, suc, ◌+◌, ◌*◌, ◌-◌, ◌%◌, ◌^◌, ◌≤◌, ◌<◌}
use native.Mathlib.Nat.{add-zero}
use native.Mathlib.Omega.{arith}
use borrow.Author.Tests.{le-leb}
use lib.ListN.{length, take, drop, get_or, replicate, length-replicate}
use lib.Seq.{take_at, get_or-append-add}
use Rattle.grid.specs.declared.refusals.Kind.TheVariants.{Sample}
use Rattle.grid.specs.Check.{Fine, is_step, light_check, spectrum_check}
use Rattle.grid.proofs.Accepted.{step_cases}
use Rattle.record.specs.Bits.{pack, cut, bytewise, bits_of_bytes, Bytes}
use Rattle.record.specs.Format.{header_widths, body_widths, header_fields, body_fields, code_of, step_of_code, length_of, record_of, header_of, fields_of, start_of, step_of, count_of, samples_of, padding_of}
use Rattle.record.specs.Answer.{record_check, write_answer, bytes_after}
use Rattle.record.specs.Said.{wrote, said_written}
use Rattle.record.proofs.Rows.{Fit, more, widths_sum, widths_sum_append, widths_sum_replicate, fit_append, fit_row, fit_zeros, fit_cut, packed_bits, length_cut, regroup}
use Rattle.record.proofs.Fields.{length_header, fields_split, body_split, samples_cut, samples_length, padding_cut, five_halves}
use Rattle.grid.proofs.Light.{grid_fine, limit_fine, within, on_grid}
use Rattle.record.proofs.Accepted.{fit_header}
use Rattle.record.proofs.Reading.{record_fine, accept}

-- the fields of n samples fill whole bytes
whole_bytes : (n : ℕ) → widths_sum (header_widths ++ body_widths n) ≡ widths_sum (bytewise (length_of n))
whole_bytes n =
    let body : widths_sum (body_widths n) ≡ 20 * n + 4 * (n % 2) =
    widths_sum_append (replicate n 20) (replicate (n % 2) 4) ∙ ap₂ (λ (x y : ℕ). x + y) (widths_sum_replicate n 20) (widths_sum_replicate (n % 2) 4) in
    let bytes : widths_sum (bytewise (length_of n)) ≡ 8 * length_of n = widths_sum_replicate (length_of n) 8 in
    let halves = five_halves n in
    omega arith

step_code : (s : ℕ) → is_step s ≡ true → step_of_code (code_of s) ≡ s
step_code s e = ⊎_elim (λ p. rw p) (⊎_elim (λ p. rw p) (⊎_elim (λ p. rw p) (λ p. rw p))) (step_cases s e)

code_step : (c : ℕ) → c < 4 → code_of (step_of_code c) ≡ c
code_step zero h = refl
code_step (suc zero) h = refl
code_step (suc (suc zero)) h = refl
code_step (suc (suc (suc zero))) h = refl
code_step (suc (suc (suc (suc c)))) h = absurd (omega arith)

pub length_record : (a s : ℕ) (xs : List ℕ) → length (record_of a s xs) ≡ length_of (length xs)
unfolding record_of
length_record a s xs =
    let n = length xs in
    length_cut (bytewise (length_of n)) (pack (header_widths ++ body_widths n) (header_fields a s n ++ body_fields xs)) ∙ length-replicate (length_of n) 8

no_padding : (o : ℕ) → ◌≡◌ {A = ℕ} (get_or (replicate o 0) 0 0) 0
no_padding zero = refl
no_padding (suc o) = refl

-- the record of an accepted spectrum
module _ (a s : ℕ) (xs : List ℕ) (fine : light_check a s xs ≡ Fine) where
  fields_fit : Fit (header_widths ++ body_widths (length xs)) (header_fields a s (length xs) ++ body_fields xs)
  fields_fit =
      let limit = within a s xs fine in
      fit_append (fit_header a s xs fine) (fit_append (fit_row 20 xs (λ k. omega (arith, limit k))) (fit_zeros (length xs % 2) 4))

  fields_back : fields_of (length xs) (record_of a s xs) ≡ header_fields a s (length xs) ++ body_fields xs
  unfolding fields_of record_of
  fields_back =
      let n = length xs in
      ap (λ (k : ℕ). cut (header_widths ++ body_widths n) (pack (bytewise k) (record_of a s xs))) (length_record a s xs)
      ∙ regroup (bytewise (length_of n)) fields_fit (whole_bytes n)

  header_back : header_of (record_of a s xs) ≡ header_fields a s (length xs)
  header_back =
      let n = length xs in
      let bytes = record_of a s xs in
      sym (take_at (header_of bytes) (cut (body_widths n) (drop 24 (bits_of_bytes bytes))) 5 (length_header bytes))
      ∙ ap (take 5) (sym (fields_split n bytes) ∙ fields_back)

  pub samples_back : samples_of (length xs) (record_of a s xs) ≡ xs
  unfolding samples_of
  samples_back =
      ap (λ (r : List ℕ). take (length xs) (drop 5 r)) fields_back ∙ take_at xs (replicate (length xs % 2) 0) (length xs) refl

  padding_back : padding_of (length xs) (record_of a s xs) ≡ 0
  unfolding padding_of
  padding_back =
      let n = length xs in
      let pad : List ℕ = replicate (n % 2) 0 in
      ap (λ (r : List ℕ). get_or r (5 + n) 0) fields_back
      ∙ get_or-append-add (header_fields a s n) (xs ++ pad) n 0
      ∙ ap (λ (k : ℕ). get_or (xs ++ pad) k 0) (sym (add-zero n))
      ∙ get_or-append-add xs pad 0 0
      ∙ no_padding (n % 2)

  pub start_back : start_of (record_of a s xs) ≡ a
  start_back = let grid = on_grid a s xs fine in ap (λ (h : List ℕ). 300 + get_or h 2 0) header_back ∙ omega arith

  pub step_back : step_of (record_of a s xs) ≡ s
  step_back = ap (λ (h : List ℕ). step_of_code (get_or h 1 0)) header_back ∙ step_code s (on_grid a s xs fine).step_allowed

  pub count_back : count_of (record_of a s xs) ≡ length xs
  count_back = ap (λ (h : List ℕ). get_or h 3 0) header_back

  pub record_accepted : record_check (record_of a s xs) ≡ Fine
  record_accepted =
      let bytes = record_of a s xs in
      accept bytes
      record {
        long = rw length_record (omega arith);
        edition = ap (λ (h : List ℕ). get_or h 0 0) header_back;
        reserved = ap (λ (h : List ℕ). get_or h 4 0) header_back;
        grid = rw (start_back, step_back, count_back) (grid_fine Sample 1000000 a s xs fine);
      }
      (rw count_back record { whole = length_record a s xs; padding = padding_back; samples = rw samples_back (limit_fine Sample 1000000 a s xs fine) })

  pub written :
      (bytes : List ℕ) → length_of (length xs) ≤ length bytes →
      (said_written (write_answer a s xs (length bytes)) ≡ wrote (length_of (length xs)))
      × (bytes_after a s xs bytes ≡ record_of a s xs ++ drop (length_of (length xs)) bytes)
  written bytes room =
      let e = le-leb (length_of (length xs)) (length bytes) room in
      (rw (fine, e), rw (fine, e))

-- padding that is 0 where there is some is a row of zeros
padding_zeros : (o : ℕ) (bits : List ℕ) → o < 2 → get_or (cut (replicate o 4) bits) 0 0 ≡ 0 → cut (replicate o 4) bits ≡ replicate o 0
unfolding cut
padding_zeros zero bits h e = refl
padding_zeros (suc zero) bits h e = ap (λ (x : ℕ). x ∷ []) e
padding_zeros (suc (suc o)) bits h e = absurd (omega arith)

second : {j k u v : ℕ} {ks vs : List ℕ} → Fit (j ∷ k ∷ ks) (u ∷ v ∷ vs) → v < 2 ^ k
second (more h (more l t)) = l

-- an accepted record
module _ (bytes : List ℕ) (fine : record_check bytes ≡ Fine) where
  pub spectrum_accepted : light_check (start_of bytes) (step_of bytes) (samples_of (count_of bytes) bytes) ≡ Fine
  unfolding spectrum_check
  spectrum_accepted =
      let n = count_of bytes in
      let e = samples_length n bytes in
      let found = record_fine bytes fine in
      rw (e, found.0.grid) found.1.samples

  header_again : header_of bytes ≡ header_fields (start_of bytes) (step_of bytes) (count_of bytes)
  unfolding header_of cut
  header_again =
      let found = (record_fine bytes fine).0 in
      let fit = fit_cut header_widths (bits_of_bytes bytes) (packed_bits (bytewise (length bytes)) bytes) in
      let code = get_or (header_of bytes) 1 0 in
      let start = get_or (header_of bytes) 2 0 in
      let same : (300 + start) - 300 ≡ start = omega arith in
      rw (code_step code (second fit), same, found.reserved, found.edition)

  fields_again : fields_of (count_of bytes) bytes ≡ header_fields (start_of bytes) (step_of bytes) (count_of bytes) ++ body_fields (samples_of (count_of bytes) bytes)
  fields_again =
      let n = count_of bytes in
      let bits = drop 24 (bits_of_bytes bytes) in
      let pad : cut (replicate (n % 2) 4) (drop (20 * n) bits) ≡ replicate (n % 2) 0 =
      padding_zeros (n % 2) (drop (20 * n) bits) (omega arith) (sym (padding_cut n bytes) ∙ (record_fine bytes fine).1.padding) in
      fields_split n bytes
      ∙ ap₂ (λ (x y : List ℕ). x ++ y) header_again
      (body_split n bits ∙ ap₂ (λ (x y : List ℕ). x ++ y) (sym (samples_cut n bytes)) (pad ∙ ap (λ (k : ℕ). replicate (k % 2) 0) (sym (samples_length n bytes))))

  pub bytes_again : Bytes bytes → record_of (start_of bytes) (step_of bytes) (samples_of (count_of bytes) bytes) ≡ bytes
  unfolding record_of fields_of
  bytes_again known =
      let n = count_of bytes in
      let xs = samples_of n bytes in
      let widths = header_widths ++ body_widths n in
      let e = samples_length n bytes in
      let whole = (record_fine bytes fine).1.whole in
      ap (λ (k : ℕ). cut (bytewise (length_of k)) (pack (header_widths ++ body_widths k) (header_fields (start_of bytes) (step_of bytes) k ++ body_fields xs))) e
      ∙ ap₂ (λ (k : ℕ) (vs : List ℕ). cut (bytewise k) (pack widths vs)) (sym whole) (sym fields_again)
      ∙ regroup widths (fit_row 8 bytes known) (ap (λ (k : ℕ). widths_sum (bytewise k)) whole ∙ sym (whole_bytes n))

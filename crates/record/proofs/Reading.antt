-- The checks of a record taken apart as the reader makes them: the header's, the shape's, and what is left then.
use Rattle.std.proofs.Common.{◌≡◌, refl, sym, ap, ◌∙◌, Bool, true, false, Ok, Err, List, ℕ, ◌/◌, ◌%◌, ◌≤◌, length, nat_le, nat_eq, arith}
use borrow.Author.Tests.{le-leb, eq-eqb, leb-true}
use Rattle.grid.specs.declared.refusals.Kind.TheVariants.{Edition, Reserved, Length, Padding}
use Rattle.grid.specs.declared.refusals.Refusal.{Refusal}
use Rattle.grid.specs.Check.{Check, Fine, ◌>>=◌, require, samples_check}
use Rattle.grid.proofs.Limit.{both_fine}
use Rattle.grid.proofs.Accepted.{accepted}
use Rattle.record.specs.declared.Header.{Header}
use Rattle.record.specs.Bits.{Bytes}
use Rattle.record.specs.Format.{header_widths, header_of, edition_of, reserved_of, start_of, step_of, count_of, samples_of, padding_of, length_of}
use Rattle.record.specs.Answer.{header_check, body_check, record_check, header_read}
use Rattle.record.specs.Leaf.{shape_check, unpack_check, header_answer, header_from}
use Rattle.record.proofs.Rows.{digits}
use Rattle.record.proofs.Window.{three_at}
use Rattle.record.proofs.Fields.{header_digits}
use Rattle.record.proofs.Refusals.{HeaderFine, BodyFine, header_fine, body_fine}

pub record_fine : (bytes : List ℕ) → record_check bytes ≡ Fine → HeaderFine bytes × BodyFine (count_of bytes) bytes
unfolding record_check
record_fine bytes e =
    let both = both_fine (header_check bytes) (body_check (count_of bytes) bytes) e in
    (header_fine bytes both.0, body_fine (count_of bytes) bytes both.1)

pub accept : (bytes : List ℕ) → HeaderFine bytes → BodyFine (count_of bytes) bytes → record_check bytes ≡ Fine
unfolding record_check header_check body_check
accept bytes h b =
    let n = count_of bytes in
    rw (le-leb 3 (length bytes) h.long, eq-eqb (edition_of bytes) 1 h.edition, eq-eqb (reserved_of bytes) 0 h.reserved, h.grid)
    (rw (eq-eqb (length bytes) (length_of n) b.whole, eq-eqb (padding_of n bytes) 0 b.padding, b.samples))

pub unpack_fine :
    (bytes : List ℕ) (room : ℕ) → unpack_check bytes room ≡ Fine → HeaderFine bytes × (shape_check (count_of bytes) bytes room ≡ Fine)
unfolding unpack_check
unpack_fine bytes room e =
    let both = both_fine (header_check bytes) (shape_check (count_of bytes) bytes room) e in
    (header_fine bytes both.0, both.1)

pub count_most : (bytes : List ℕ) → HeaderFine bytes → count_of bytes ≤ 531
count_most bytes h = (accepted (start_of bytes) (step_of bytes) (count_of bytes) h.grid).many

-- behind two tests, the samples are left
samples_left :
    (b c : Bool) (samples : Check) →
    (require b Length >>= (λ _. require c Padding >>= (λ _. samples))) ≡ (require b Length >>= (λ _. require c Padding >>= (λ _. Fine)) >>= (λ _. samples))
samples_left true true samples = refl
samples_left true false samples = refl
samples_left false c samples = refl

-- 531 are room for any record, so that behind unpacking it into so many only its samples are left
pub record_split : (bytes : List ℕ) → record_check bytes ≡ (unpack_check bytes 531 >>= (λ _. samples_check (samples_of (count_of bytes) bytes)))
unfolding record_check body_check unpack_check shape_check
record_split bytes = go (header_check bytes) refl
  where
    go :
        (c : Check) → header_check bytes ≡ c →
        record_check bytes ≡ (unpack_check bytes 531 >>= (λ _. samples_check (samples_of (count_of bytes) bytes)))
    go (Ok _) e =
        let n = count_of bytes in
        rw (e, le-leb n 531 (count_most bytes (header_fine bytes e)))
        (samples_left (nat_eq (length bytes) (length_of n)) (nat_eq (padding_of n bytes) 0) (samples_check (samples_of n bytes)))
    go (Err r) e = rw e

-- what an answer tells of its check
pub answer_refused : {A : Type 0} (check : Check) (x : A) (r : Refusal) → (check >>= (λ _. Ok x)) ≡ Err r → check ≡ Err r
answer_refused (Ok _) x r e = absurd (cc)
answer_refused (Err q) x r e = cc

pub answer_given : {A : Type 0} (check : Check) (x y : A) → (check >>= (λ _. Ok x)) ≡ Ok y → (check ≡ Fine) × (y ≡ x)
answer_given (Ok _) x y e = (refl, cc)
answer_given (Err q) x y e = absurd (cc)

-- tests and then a header, in one row
in_one_row :
    (edition reserved : Bool) (grid : Check) (h : Header) →
    (require edition Edition >>= (λ _. require reserved Reserved >>= (λ _. grid)) >>= (λ _. Ok h))
    ≡ (require edition Edition >>= (λ _. require reserved Reserved >>= (λ _. grid >>= (λ _. Ok h))))
in_one_row true true grid h = refl
in_one_row true false grid h = refl
in_one_row false reserved grid h = refl

-- what the header answers is what its number does
pub header_number :
    (bytes : List ℕ) (number : ℕ) → Bytes bytes → number ≡ three_at bytes 0 → nat_le 3 (length bytes) ≡ true → header_answer bytes ≡ header_from number
unfolding header_check
header_number bytes number known e long =
    let fields : header_of bytes ≡ digits header_widths number =
    header_digits bytes known (leb-true 3 (length bytes) long) ∙ ap (digits header_widths) (sym e) in
    let edition : number / 1048576 % 16 ≡ number / 1048576 = omega (arith, known 0, known 1, known 2) in
    let reserved : number / 1 % 2 ≡ number % 2 = omega arith in
    rw (long, fields, edition, reserved) (in_one_row _ _ _ _)

module _ (bytes : List ℕ) (room : ℕ) where
  pub header_refused : (r : Refusal) → header_answer bytes ≡ Err r → unpack_check bytes room ≡ Err r
  unfolding unpack_check
  header_refused r e = rw (answer_refused (header_check bytes) (header_read bytes) r e)

  -- behind the header, the shape is left
  pub shape_left : (h : Header) → header_answer bytes ≡ Ok h → (unpack_check bytes room ≡ shape_check h.count bytes room) × (h ≡ header_read bytes)
  unfolding unpack_check
  shape_left h e =
      let told = answer_given (header_check bytes) (header_read bytes) h e in
      (rw (told.0, told.1), told.1)

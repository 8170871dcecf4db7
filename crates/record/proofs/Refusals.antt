-- What the checks of a record's header and body come to, test by test.
use Rattle.std.proofs.Common.{◌≡◌, List, ℕ, ◌≤◌, length, nat_le, nat_eq}
use borrow.Author.Tests.{leb-true, eqb-true}
use Rattle.grid.specs.declared.refusals.Kind.TheVariants.{Edition, Reserved, Length, Padding}
use Rattle.grid.specs.Check.{Fine, ◌>>=◌, require, grid_check, samples_check}
use Rattle.grid.proofs.Limit.{both_fine, passed}
use Rattle.record.specs.Answer.{header_check, body_check}
use Rattle.record.specs.Format.{length_of, padding_of, samples_of, edition_of, reserved_of, start_of, step_of, count_of}

-- what a check that is fine tells
pub record HeaderFine (bytes : List ℕ) : Type 0 where
  pub long : 3 ≤ length bytes
  pub edition : edition_of bytes ≡ 1
  pub reserved : reserved_of bytes ≡ 0
  pub grid : grid_check (start_of bytes) (step_of bytes) (count_of bytes) ≡ Fine

pub record BodyFine (n : ℕ) (bytes : List ℕ) : Type 0 where
  pub whole : length bytes ≡ length_of n
  pub padding : padding_of n bytes ≡ 0
  pub samples : samples_check (samples_of n bytes) ≡ Fine

pub header_fine : (bytes : List ℕ) → header_check bytes ≡ Fine → HeaderFine bytes
unfolding header_check
header_fine bytes e =
    let grid = grid_check (start_of bytes) (step_of bytes) (count_of bytes) in
    let reserved = require (nat_eq (reserved_of bytes) 0) Reserved in
    let edition = require (nat_eq (edition_of bytes) 1) Edition in
    let first = both_fine (require (nat_le 3 (length bytes)) Length) (edition >>= (λ _. reserved >>= (λ _. grid))) e in
    let second = both_fine edition (reserved >>= (λ _. grid)) first.1 in
    let third = both_fine reserved grid second.1 in
    record {
      long = leb-true 3 (length bytes) (passed (nat_le 3 (length bytes)) Length first.0);
      edition = eqb-true (edition_of bytes) 1 (passed (nat_eq (edition_of bytes) 1) Edition second.0);
      reserved = eqb-true (reserved_of bytes) 0 (passed (nat_eq (reserved_of bytes) 0) Reserved third.0);
      grid = third.1;
    }

pub body_fine : (n : ℕ) (bytes : List ℕ) → body_check n bytes ≡ Fine → BodyFine n bytes
unfolding body_check
body_fine n bytes e =
    let padding = require (nat_eq (padding_of n bytes) 0) Padding in
    let samples = samples_check (samples_of n bytes) in
    let first = both_fine (require (nat_eq (length bytes) (length_of n)) Length) (padding >>= (λ _. samples)) e in
    let second = both_fine padding samples first.1 in
    record {
      whole = eqb-true (length bytes) (length_of n) (passed (nat_eq (length bytes) (length_of n)) Length first.0);
      padding = eqb-true (padding_of n bytes) 0 (passed (nat_eq (padding_of n bytes) 0) Padding second.0);
      samples = second.1;
    }

-- What is promised of records: accepted spectra and accepted records are one to one.
use Rattle.std.specs.Prelude.{◌≡◌, List, [], ◌∷◌, ◌++◌, ℕ, ◌≤◌, length, take, drop, replicate}
use Rattle.record.specs.Bits.{Bytes}
use Rattle.record.specs.Format.{length_of, record_of}
use Rattle.grid.specs.Check.{Fine, light_check}
use Rattle.record.specs.Answer.{read_answer, row_after, write_answer, bytes_after}
use Rattle.record.specs.Said.{read_as, wrote, said_read, said_written}

-- an accepted spectrum is written where there is room, and reading its record gives it back
pub record ReadBack : Type 0 where
  pub written :
      (a s : ℕ) (xs bytes : List ℕ) → light_check a s xs ≡ Fine → length_of (length xs) ≤ length bytes →
      (said_written (write_answer a s xs (length bytes)) ≡ wrote (length_of (length xs)))
      × (bytes_after a s xs bytes ≡ record_of a s xs ++ drop (length_of (length xs)) bytes)
  pub read :
      (a s : ℕ) (xs row : List ℕ) → light_check a s xs ≡ Fine → length xs ≤ length row →
      (said_read (read_answer (record_of a s xs) (length row)) ≡ read_as a s (length xs))
      × (row_after (record_of a s xs) row ≡ xs ++ drop (length xs) row)

-- what is read of an accepted record, written where there is room, gives the very bytes
pub record WrittenBack : Type 0 where
  pub answer :
      (bytes row lent : List ℕ) (a s n : ℕ) → Bytes bytes → said_read (read_answer bytes (length row)) ≡ read_as a s n →
      length bytes ≤ length lent →
      said_written (write_answer a s (take n (row_after bytes row)) (length lent)) ≡ wrote (length bytes)
  pub bytes :
      (bytes row lent : List ℕ) (a s n : ℕ) → Bytes bytes → said_read (read_answer bytes (length row)) ≡ read_as a s n →
      length bytes ≤ length lent →
      bytes_after a s (take n (row_after bytes row)) lent ≡ bytes ++ drop (length bytes) lent

-- two accepted records that read alike are the same bytes
pub record OneToOne : Type 0 where
  pub same :
      (bytes others row : List ℕ) (a s n : ℕ) → Bytes bytes → Bytes others →
      said_read (read_answer bytes (length row)) ≡ read_as a s n → said_read (read_answer others (length row)) ≡ read_as a s n →
      take n (row_after bytes row) ≡ take n (row_after others row) → bytes ≡ others

-- the length of an accepted spectrum's record, from 106 bytes to 1,331
pub record Length : Type 0 where
  pub bytes : (a s : ℕ) (xs : List ℕ) → Bytes (record_of a s xs)
  pub exact : (a s : ℕ) (xs : List ℕ) → length (record_of a s xs) ≡ length_of (length xs)
  pub least : (a s : ℕ) (xs : List ℕ) → light_check a s xs ≡ Fine → 106 ≤ length_of (length xs)
  pub most : (a s : ℕ) (xs : List ℕ) → light_check a s xs ≡ Fine → length_of (length xs) ≤ 1331

-- 401 samples, all 0 but 1,000,000 at 460 nm where they begin at 380 and have step 1
abbrev pub example_samples : List ℕ
example_samples = replicate 80 0 ++ 1000000 ∷ replicate 320 0

-- their record has 1,006 bytes and begins hex 12 83 22
pub record ExampleRecord : Type 0 where
  pub accepted : light_check 380 1 example_samples ≡ Fine
  pub length : length (record_of 380 1 example_samples) ≡ 1006
  pub begins : take 3 (record_of 380 1 example_samples) ≡ 0x12 ∷ 0x83 ∷ 0x22 ∷ []

-- A record is its bits cut into bytes, and an accepted grid bounds how many samples there are.
use mathlib.Core.Path.{◌≡◌}
use mathlib.Core.List.{List, ◌++◌}
use Prim.Native.Nat.{ℕ, ◌*◌, ◌-◌, ◌≤◌}
use native.Mathlib.Nat.{mul-le-mul_right}
use native.Mathlib.Omega.{arith}
use lib.ListN.{length}
use Rattle.grid.specs.Check.{Fine, light_check}
use Rattle.grid.proofs.Light.{on_grid}
use Rattle.record.specs.Bits.{pack, bytewise, Bytes}
use Rattle.record.specs.Format.{header_widths, body_widths, header_fields, body_fields, length_of, record_of}
use Rattle.record.proofs.Rows.{row_fits, fit_cut, packed_bits}
use Rattle.record_promises.proofs.Round.{length_record}
use Rattle.record_promises.proofs.records.promise_length.Goals as goal

record_bytes : (a s : ℕ) (xs : List ℕ) → Bytes (record_of a s xs)
unfolding record_of
record_bytes a s xs =
    let n = length xs in
    let widths = header_widths ++ body_widths n in
    let fields = header_fields a s n ++ body_fields xs in
    row_fits (length_of n) 8 (record_of a s xs) (fit_cut (bytewise (length_of n)) (pack widths fields) (packed_bits widths fields))

least : (a s : ℕ) (xs : List ℕ) → light_check a s xs ≡ Fine → 106 ≤ length_of (length xs)
least a s xs fine =
    let grid = on_grid a s xs fine in
    let more : s * (length xs - 1) ≤ 10 * (length xs - 1) = mul-le-mul_right (length xs - 1) grid.step_high in
    omega arith

most : (a s : ℕ) (xs : List ℕ) → light_check a s xs ≡ Fine → length_of (length xs) ≤ 1331
most a s xs fine = let grid = on_grid a s xs fine in omega arith

pub returns : goal.returns
returns c = record { bytes = record_bytes; exact = length_record; least = least; most = most }

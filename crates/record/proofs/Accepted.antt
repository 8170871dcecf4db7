-- The bytes of an accepted spectrum's record, as they are stored.
use Rattle.std.proofs.Common.{◌≡◌, sym, List, ◌++◌, ℕ, ◌+◌, ◌-◌, length, take, drop, arith, append_assoc}
use Rattle.std.proofs.Math.Seq.{take_at}
use Rattle.std.proofs.lemmas.List.{drop-drop}
use Rattle.std.proofs.lemmas.Slice.{drop-append-drop}
use Rattle.grid.specs.Check.{Fine, light_check}
use Rattle.grid.proofs.Light.{on_grid}
use Rattle.record.specs.Format.{header_widths, header_fields, length_of, record_of}
use Rattle.record.specs.Leaf.{header_bytes, body_of}
use Rattle.record.proofs.Rows.{Fit}
use Rattle.record.proofs.Packed.{header_fit, length_header_bytes, record_split}

module _ (a s : ℕ) (xs : List ℕ) (fine : light_check a s xs ≡ Fine) where
  pub fit_header : Fit header_widths (header_fields a s (length xs))
  fit_header = let grid = on_grid a s xs fine in header_fit a s (length xs) (omega arith) (omega arith)

  -- the header's bytes at the front, the others behind them, and then what was there before
  pub laid :
      (bytes : List ℕ) →
      let front = header_bytes a s (length xs) ++ drop 3 bytes in
      let m = length_of (length xs) - 3 in
      take 3 front ++ (body_of xs ++ drop m (drop 3 front)) ≡ record_of a s xs ++ drop (length_of (length xs)) bytes
  laid bytes =
      let head = header_bytes a s (length xs) in
      let long = length_header_bytes a s (length xs) in
      let m = length_of (length xs) - 3 in
      let place : 3 + m ≡ length_of (length xs) = omega arith in
      rw (drop-drop m 3 (head ++ drop 3 bytes), place, drop-append-drop 3 bytes head (length_of (length xs)) (omega arith) long, take_at head (drop 3 bytes) 3 long, record_split a s xs fit_header)
      (sym (append_assoc head (body_of xs) (drop (length_of (length xs)) bytes)))

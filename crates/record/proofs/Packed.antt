-- The bytes of a record: three for the header, then five for each two samples, and three for an odd last one.
use mathlib.Core.Path.{◌≡◌, refl, sym, ap, ap₂, ◌∙◌}
use mathlib.Core.Bool.{Bool, true, false, cond}
use mathlib.Core.List.{List, [], ◌∷◌, ◌++◌}
use Prim.Native.Nat.{ℕ, suc, ◌+◌, ◌*◌, ◌-◌, ◌/◌, ◌%◌, ◌^◌, ◌≤◌, ◌<◌}
use native.Mathlib.Omega.{arith}
use lib.ListN.{length, drop, get_or, replicate-append-replicate}
use lib.Dec.{eqb}
use Rattle.std.proofs.lemmas.List.{drop_all}
use Rattle.record.specs.Bits.{bits_of, pack, cut, bytewise}
use Rattle.record.specs.Format.{header_widths, header_fields, body_widths, body_fields, record_of}
use Rattle.record.specs.Leaf.{header_bytes, body_of}
use Rattle.record.proofs.Store.{next}
use Rattle.record.proofs.Rows.{Fit, none, more, length_pack, length_cut, pack_append, pack_whole, cut_number, cut_join}

-- two samples in five bytes: four of the number of the first 32 bits, and the second sample's last
five_bytes : (x y : ℕ) → x < 2 ^ 20 → y < 2 ^ 20 →
    let number = x * 4096 + y / 256 in
    cut (bytewise 5) (pack (20 ∷ 20 ∷ []) (x ∷ y ∷ []))
    ≡ (number / 16777216 % 256) ∷ (number / 65536 % 256) ∷ (number / 256 % 256) ∷ (number % 256) ∷ (y % 256) ∷ []
five_bytes x y h l =
    let v = x * 2 ^ 20 + (y * 2 ^ 0 + 0) in
    let number = x * 4096 + y / 256 in
    let a : v / 4294967296 % 256 ≡ number / 16777216 % 256 = omega arith in
    let b : v / 16777216 % 256 ≡ number / 65536 % 256 = omega arith in
    let d : v / 65536 % 256 ≡ number / 256 % 256 = omega arith in
    let e : v / 256 % 256 ≡ number % 256 = omega arith in
    let f : v / 1 % 256 ≡ y % 256 = omega arith in
    ap (cut (bytewise 5)) (pack_whole {ks = 20 ∷ 20 ∷ []} {vs = x ∷ y ∷ []} (more h (more l none)))
    ∙ cut_number (8 ∷ 8 ∷ 8 ∷ 8 ∷ 8 ∷ []) v
    ∙ rw (a, b, d, e, f)

-- a number in three bytes
pub three_bytes : (v : ℕ) → cut (bytewise 3) (bits_of 24 v) ≡ (v / 65536 % 256) ∷ (v / 256 % 256) ∷ (v % 256) ∷ []
three_bytes v = let last : v / 1 % 256 ≡ v % 256 = omega arith in cut_number (8 ∷ 8 ∷ 8 ∷ []) v ∙ rw last

body_pair : (x y : ℕ) (xs : List ℕ) → x < 2 ^ 20 → y < 2 ^ 20 → body_of (x ∷ y ∷ xs) ≡ cut (bytewise 5) (pack (20 ∷ 20 ∷ []) (x ∷ y ∷ [])) ++ body_of xs
unfolding body_of
body_pair x y xs h l =
    let n = length xs in
    let m = (5 * n + 1) / 2 in
    let long : (5 * suc (suc n) + 1) / 2 ≡ 5 + m = omega arith in
    let odd : suc (suc n) % 2 ≡ n % 2 = omega arith in
    let fit : Fit (20 ∷ 20 ∷ []) (x ∷ y ∷ []) = more h (more l none) in
    rw (long, odd)
    (ap₂ cut (sym (replicate-append-replicate 5 m 8)) (pack_append (body_widths n) (body_fields xs) fit))
    ∙ cut_join (bytewise 5) (bytewise m) (pack (20 ∷ 20 ∷ []) (x ∷ y ∷ [])) (pack (body_widths n) (body_fields xs)) (length_pack fit)

body_last : (x : ℕ) → x < 2 ^ 20 → body_of (x ∷ []) ≡ cut (bytewise 3) (bits_of 24 (x * 16))
unfolding body_of
body_last x h = ap (cut (bytewise 3)) (pack_whole {ks = 20 ∷ 4 ∷ []} {vs = x ∷ 0 ∷ []} (more h (more (omega arith) none)) ∙ ap (bits_of 24) (omega arith))

module _ (xs : List ℕ) (i : ℕ) where
  -- the bytes of what is left begin with those of the next two samples
  pub five :
      (n : ℕ) → n ≡ i + 2 → i + 2 ≤ length xs → get_or xs i 0 < 2 ^ 20 → get_or xs (i + 1) 0 < 2 ^ 20 →
      let y = get_or xs (i + 1) 0 in
      let number = get_or xs i 0 * 4096 + y / 256 in
      body_of (drop i xs)
      ≡ (number / 16777216 % 256) ∷ (number / 65536 % 256) ∷ (number / 256 % 256) ∷ (number % 256) ∷ (y % 256) ∷ body_of (drop n xs)
  five n e h small small' =
      rw (next xs i (i + 1) refl (omega arith), next xs (i + 1) n (omega arith) (omega arith), body_pair _ _ (drop n xs) small small', five_bytes _ _ small small')

  -- or with those of an odd last one
  pub three :
      i + 1 ≡ length xs → get_or xs i 0 < 2 ^ 20 →
      let v = get_or xs i 0 * 16 in
      body_of (drop i xs) ≡ (v / 65536 % 256) ∷ (v / 256 % 256) ∷ (v % 256) ∷ []
  three h small = rw (next xs i (i + 1) refl (omega arith), drop_all (i + 1) xs (omega arith), body_last _ small, three_bytes)

-- behind the last sample there are none
pub no_bytes : (xs : List ℕ) → length xs ≡ 0 → body_of xs ≡ []
unfolding body_of cut
no_bytes [] e = refl
no_bytes (x ∷ xs) e = absurd (omega arith)

pub length_header_bytes : (a s n : ℕ) → length (header_bytes a s n) ≡ 3
unfolding header_bytes
length_header_bytes a s n = length_cut (bytewise 3) (pack header_widths (header_fields a s n))

pub record_split :
    (a s : ℕ) (xs : List ℕ) → Fit header_widths (header_fields a s (length xs)) →
    record_of a s xs ≡ header_bytes a s (length xs) ++ body_of xs
unfolding record_of header_bytes body_of
record_split a s xs fit =
    let n = length xs in
    let head = header_fields a s n in
    ap₂ cut (sym (replicate-append-replicate 3 ((5 * n + 1) / 2) 8)) (pack_append (body_widths n) (body_fields xs) fit)
    ∙ cut_join (bytewise 3) (bytewise ((5 * n + 1) / 2)) (pack header_widths head) (pack (body_widths n) (body_fields xs)) (length_pack fit)

code_lt : (one two five : Bool) → cond one 0 (cond two 1 (cond five 2 3)) < 2 ^ 2
code_lt true two five = omega arith
code_lt false true five = omega arith
code_lt false false true = omega arith
code_lt false false false = omega arith

pub header_fit : (a s n : ℕ) → a ≤ 380 → n < 1024 → Fit header_widths (header_fields a s n)
header_fit a s n h l =
    more {k = 4} {v = 1} (omega arith)
    (more (code_lt (eqb s 1) (eqb s 2) (eqb s 5)) (more {k = 7} {v = a - 300} (omega arith) (more {k = 10} {v = n} (omega arith) (more {k = 1} {v = 0} (omega arith) none))))

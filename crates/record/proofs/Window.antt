-- A field of a row of bytes is a field of the number that the bytes around it make, however many they are.
use mathlib.Core.Path.{◌≡◌, refl, sym, ap, ◌∙◌}
use mathlib.Core.List.{List, [], ◌∷◌, ◌++◌, append_assoc}
use Prim.Native.Nat.{ℕ, zero, suc, ◌+◌, ◌*◌, ◌/◌, ◌%◌, ◌^◌, ◌≤◌}
use native.Mathlib.Nat.{mul-suc, add-zero}
use native.Mathlib.Omega.{arith}
use lib.ListN.{length, take, drop, get_or, length-drop}
use lib.Seq.{drop-append-add, drop-append-le, take-append-le, drop-drop, drop-nil, get_or-drop}
use Rattle.record.specs.Bits.{bits_of, num, pack, bytewise, bits_of_bytes, Bytes}
use Rattle.record.proofs.Bits.{length_bits_of, join, field}
use Rattle.record.proofs.Rows.{Fit, none, more, widths_sum, widths_sum_replicate, whole, whole_lt}

bytes_tail : (x : ℕ) (bytes : List ℕ) → Bytes (x ∷ bytes) → Bytes bytes
bytes_tail x bytes h k = h (suc k)

bytes_drop : (q : ℕ) (bytes : List ℕ) → Bytes bytes → Bytes (drop q bytes)
bytes_drop zero bytes h = h
bytes_drop (suc q) [] h = h
bytes_drop (suc q) (x ∷ bytes) h = bytes_drop q bytes (bytes_tail x bytes h)

-- behind eight times q bits stand the bits of the bytes from q on
drop_bytes : (q : ℕ) (bytes : List ℕ) → drop (8 * q) (bits_of_bytes bytes) ≡ bits_of_bytes (drop q bytes)
unfolding pack
drop_bytes zero bytes = refl
drop_bytes (suc q) [] = drop-nil (8 * suc q)
drop_bytes (suc q) (x ∷ bytes) =
    let e : 8 * suc q ≡ length (bits_of 8 x) + 8 * q = rw (length_bits_of, mul-suc) (omega arith) in
    rw e (drop-append-add (bits_of 8 x) (bits_of_bytes bytes) (8 * q) ∙ drop_bytes q bytes)

-- the first m bytes of a row as one number
abbrev pub number : ℕ → List ℕ → ℕ
number m bytes = whole (bytewise m) (take m bytes)

fit_front : (m : ℕ) (bytes : List ℕ) → Bytes bytes → m ≤ length bytes → Fit (bytewise m) (take m bytes)
fit_front zero bytes h l = none
fit_front (suc m) [] h l = absurd (omega arith)
fit_front (suc m) (x ∷ bytes) h l = more (h 0) (fit_front m bytes (bytes_tail x bytes h) (omega arith))

pub front :
    (m : ℕ) (bytes : List ℕ) → Bytes bytes → m ≤ length bytes →
    bits_of_bytes bytes ≡ bits_of (widths_sum (bytewise m)) (number m bytes) ++ bits_of_bytes (drop m bytes)
unfolding pack bits_of
front zero bytes h l = refl
front (suc m) [] h l = absurd (omega arith)
front (suc m) (x ∷ bytes) h l =
    let known = bytes_tail x bytes h in
    let within : m ≤ length bytes = omega arith in
    let t = widths_sum (bytewise m) in
    let v = number m bytes in
    ap (λ (r : List ℕ). bits_of 8 x ++ r) (front m bytes known within)
    ∙ sym (append_assoc (bits_of 8 x) (bits_of t v) (bits_of_bytes (drop m bytes)))
    ∙ ap (λ (r : List ℕ). r ++ bits_of_bytes (drop m bytes)) (join 8 t x v (whole_lt (fit_front m bytes known within)))

-- a field that lies in the m bytes from q on, behind r bits and before t
pub window :
    (m q r k t : ℕ) (bytes : List ℕ) → Bytes bytes → q + m ≤ length bytes → r + (k + t) ≡ 8 * m →
    num (take k (drop (8 * q + r) (bits_of_bytes bytes))) ≡ number m (drop q bytes) / 2 ^ t % 2 ^ k
window m q r k t bytes h l e =
    let v = number m (drop q bytes) in
    let rest = bits_of_bytes (drop m (drop q bytes)) in
    let w : widths_sum (bytewise m) ≡ r + (k + t) = widths_sum_replicate m 8 ∙ sym e in
    let long : length (bits_of (r + (k + t)) v) ≡ r + (k + t) = length_bits_of (r + (k + t)) v in
    let behind : k ≤ length (drop r (bits_of (r + (k + t)) v)) = rw length-drop (omega arith) in
    let within : r ≤ length (bits_of (r + (k + t)) v) = omega arith in
    ap (λ (x : List ℕ). num (take k x))
    (sym (drop-drop r (8 * q) (bits_of_bytes bytes))
    ∙ ap (drop r)
    (drop_bytes q bytes
    ∙ front m (drop q bytes) (bytes_drop q bytes h) (rw length-drop (omega arith))
    ∙ ap (λ (n : ℕ). bits_of n v ++ rest) w)
    ∙ drop-append-le r (bits_of (r + (k + t)) v) rest within)
    ∙ ap num (take-append-le k (drop r (bits_of (r + (k + t)) v)) rest behind)
    ∙ field r k t v

-- the three bytes from a place on, as one number
abbrev pub three_at : List ℕ → ℕ → ℕ
three_at bytes at = get_or bytes at 0 * 65536 + get_or bytes (at + 1) 0 * 256 + get_or bytes (at + 2) 0

three_front : (bytes : List ℕ) → 3 ≤ length bytes → number 3 bytes ≡ three_at bytes 0
three_front [] l = absurd (omega arith)
three_front (x ∷ []) l = absurd (omega arith)
three_front (x ∷ y ∷ []) l = absurd (omega arith)
three_front (x ∷ y ∷ z ∷ bytes) l = omega arith

pub three_number : (q : ℕ) (bytes : List ℕ) → q + 3 ≤ length bytes → number 3 (drop q bytes) ≡ three_at bytes q
three_number q bytes l = three_front (drop q bytes) (rw length-drop (omega arith)) ∙ simp (get_or-drop, add-zero)

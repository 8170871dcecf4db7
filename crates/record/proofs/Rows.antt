-- Laws of rows packed and cut by their widths: each undoes the other.
use mathlib.Core.Path.{◌≡◌, refl, sym, ap, ap₂, ◌∙◌}
use mathlib.Core.List.{List, [], ◌∷◌, ◌++◌, append_assoc, append-nil}
use Prim.Native.Nat.{ℕ, zero, suc, ◌+◌, ◌*◌, ◌/◌, ◌%◌, ◌^◌, ◌≤◌, ◌<◌}
use native.Mathlib.Nat.{zero-add, add_assoc, mod-eq_of_lt, mul-zero, mul-suc, lt_of_lt_of_le}
use native.Mathlib.Omega.{arith}
use lib.ListN.{length, take, drop, get_or, replicate, length-append, take-append-drop, length-take, length-drop}
use lib.Seq.{take_at, drop_at, take-append-le, drop-append-le, length-take-le, drop-drop}
use lib.Arith.{digits_lt}
use lib.Pow.{pow_pos, pow-add, pow_mono}
use Rattle.record.specs.Bits.{bits_of, num, pack, cut}
use Rattle.record.proofs.Bits.{Bits, length_bits_of, are_bits, bits_append, num_bits_of, bits_of_add, join, bits_of_num, num_lt}

-- each value is below two to its width
pub data Fit : List ℕ → List ℕ → Type 0 where
  none : Fit [] []
  more : {k v : ℕ} {ks vs : List ℕ} → v < 2 ^ k → Fit ks vs → Fit (k ∷ ks) (v ∷ vs)

-- how many bits widths take
abbrev pub widths_sum : List ℕ → ℕ
widths_sum [] = 0
widths_sum (k ∷ ks) = k + widths_sum ks

pub widths_sum_append : (ks js : List ℕ) → widths_sum (ks ++ js) ≡ widths_sum ks + widths_sum js
widths_sum_append [] js = sym (zero-add (widths_sum js))
widths_sum_append (k ∷ ks) js = ap (λ (x : ℕ). k + x) (widths_sum_append ks js) ∙ sym (add_assoc k (widths_sum ks) (widths_sum js))

pub widths_sum_replicate : (n k : ℕ) → widths_sum (replicate n k) ≡ k * n
widths_sum_replicate zero k = sym (mul-zero k)
widths_sum_replicate (suc n) k = let e = widths_sum_replicate n k in rw (e, mul-suc) (omega arith)

pub fit_append : {ks js vs us : List ℕ} → Fit ks vs → Fit js us → Fit (ks ++ js) (vs ++ us)
fit_append none l = l
fit_append (more h t) l = more h (fit_append t l)

-- a row whose values all fit one width
pub fit_row : (k : ℕ) (vs : List ℕ) → ((i : ℕ) → get_or vs i 0 < 2 ^ k) → Fit (replicate (length vs) k) vs
fit_row k [] h = none
fit_row k (v ∷ vs) h = more (h 0) (fit_row k vs (λ i. h (suc i)))

pub row_fits : (n k : ℕ) (vs : List ℕ) → Fit (replicate n k) vs → (i : ℕ) → get_or vs i 0 < 2 ^ k
row_fits zero k [] none i = pow_pos k
row_fits (suc n) k (v ∷ vs) (more h t) zero = h
row_fits (suc n) k (v ∷ vs) (more h t) (suc i) = row_fits n k vs t i
row_fits zero k (v ∷ vs) longer i = elim longer [ ]
row_fits (suc n) k [] shorter i = elim shorter [ ]

pub fit_zeros : (n k : ℕ) → Fit (replicate n k) (replicate n 0)
fit_zeros zero k = none
fit_zeros (suc n) k = more (pow_pos k) (fit_zeros n k)

pub length_pack : {ks vs : List ℕ} → Fit ks vs → length (pack ks vs) ≡ widths_sum ks
unfolding pack
length_pack none = refl
length_pack (more {k} {v} {ks} {vs} h t) = length-append (bits_of k v) (pack ks vs) ∙ ap₂ (λ (x y : ℕ). x + y) (length_bits_of k v) (length_pack t)

pub packed_bits : (ks vs : List ℕ) → Bits (pack ks vs)
unfolding pack
packed_bits [] vs = tt
packed_bits (k ∷ ks) [] = tt
packed_bits (k ∷ ks) (v ∷ vs) = bits_append (bits_of k v) (pack ks vs) (are_bits k v) (packed_bits ks vs)

pub pack_append : {ks vs : List ℕ} (js us : List ℕ) → Fit ks vs → pack (ks ++ js) (vs ++ us) ≡ pack ks vs ++ pack js us
unfolding pack
pack_append js us none = refl
pack_append js us (more {k} {v} {ks} {vs} h t) =
    ap (λ (r : List ℕ). bits_of k v ++ r) (pack_append js us t) ∙ sym (append_assoc (bits_of k v) (pack ks vs) (pack js us))

pub length_cut : (ks bits : List ℕ) → length (cut ks bits) ≡ length ks
unfolding cut
length_cut [] bits = refl
length_cut (k ∷ ks) bits = ap suc (length_cut ks (drop k bits))

pub cut_append : (ks js bits : List ℕ) → cut (ks ++ js) bits ≡ cut ks bits ++ cut js (drop (widths_sum ks) bits)
unfolding cut
cut_append [] js bits = refl
cut_append (k ∷ ks) js bits =
    ap {B = List ℕ} (λ r. num (take k bits) ∷ r)
    (cut_append ks js (drop k bits) ∙ ap (λ (r : List ℕ). cut ks (drop k bits) ++ cut js r) (drop-drop (widths_sum ks) k bits))

-- what was packed comes out again
cut_pack : {ks vs : List ℕ} (rest : List ℕ) → Fit ks vs → cut ks (pack ks vs ++ rest) ≡ vs
unfolding pack cut
cut_pack rest none = refl
cut_pack rest (more {k} {v} {ks} {vs} h t) =
    let e = append_assoc (bits_of k v) (pack ks vs) rest in
    let l = length_bits_of k v in
    rw e
    (ap₂ {C = List ℕ} (λ (x : ℕ) (xs : List ℕ). x ∷ xs)
    (ap num (take_at (bits_of k v) (pack ks vs ++ rest) k l) ∙ num_bits_of k v ∙ mod-eq_of_lt h)
    (ap (cut ks) (drop_at (bits_of k v) (pack ks vs ++ rest) k l) ∙ cut_pack rest t))

bits_take : (k : ℕ) (bits : List ℕ) → Bits bits → Bits (take k bits)
bits_take zero bits h = tt
bits_take (suc k) [] h = tt
bits_take (suc k) (b ∷ bits) h = (h.0, bits_take k bits h.1)

bits_drop : (k : ℕ) (bits : List ℕ) → Bits bits → Bits (drop k bits)
bits_drop zero bits h = h
bits_drop (suc k) [] h = tt
bits_drop (suc k) (b ∷ bits) h = bits_drop k bits h.1

-- what was cut goes together again
pack_cut : (ks bits : List ℕ) → Bits bits → length bits ≡ widths_sum ks → pack ks (cut ks bits) ≡ bits
unfolding pack cut
pack_cut [] [] h l = refl
pack_cut [] (b ∷ bits) h l = absurd (omega arith)
pack_cut (k ∷ ks) bits h l =
    let t : length (take k bits) ≡ k = length-take-le k bits (omega arith) in
    let d : length (drop k bits) ≡ widths_sum ks = length-drop k bits ∙ omega arith in
    ap₂ (λ (x y : List ℕ). x ++ y)
    (ap (λ (n : ℕ). bits_of n (num (take k bits))) (sym t) ∙ bits_of_num (take k bits) (bits_take k bits h))
    (pack_cut ks (drop k bits) (bits_drop k bits h) d)
    ∙ take-append-drop k bits

-- values that are packed by their widths, cut by others that take as many bits, and packed and cut back, are the same again
pub regroup : {ks vs : List ℕ} (js : List ℕ) → Fit ks vs → widths_sum ks ≡ widths_sum js → cut ks (pack js (cut js (pack ks vs))) ≡ vs
regroup {ks} {vs} js h e =
    ap (cut ks) (pack_cut js (pack ks vs) (packed_bits ks vs) (length_pack h ∙ e) ∙ sym (append-nil (pack ks vs))) ∙ cut_pack [] h

-- the number that values packed by their widths make
abbrev pub whole : List ℕ → List ℕ → ℕ
whole [] vs = 0
whole (k ∷ ks) [] = 0
whole (k ∷ ks) (v ∷ vs) = v * 2 ^ widths_sum ks + whole ks vs

pub whole_lt : {ks vs : List ℕ} → Fit ks vs → whole ks vs < 2 ^ widths_sum ks
whole_lt none = omega arith
whole_lt (more h t) = rw (pow-add) (digits_lt h (whole_lt t))

pub pack_whole : {ks vs : List ℕ} → Fit ks vs → pack ks vs ≡ bits_of (widths_sum ks) (whole ks vs)
unfolding pack bits_of
pack_whole none = refl
pack_whole (more {k} {v} {ks} {vs} h t) =
    ap (λ (r : List ℕ). bits_of k v ++ r) (pack_whole t) ∙ join k (widths_sum ks) v (whole ks vs) (whole_lt t)

-- a value in a row of equal widths
pub get_d_cut : (n k i : ℕ) (bits : List ℕ) → i < n → get_or (cut (replicate n k) bits) i 0 ≡ num (take k (drop (k * i) bits))
unfolding cut
get_d_cut zero k i bits h = absurd (omega arith)
get_d_cut (suc n) k zero bits h = rw (mul-zero)
get_d_cut (suc n) k (suc i) bits h =
    let e : k + k * i ≡ k * suc i = rw mul-suc (omega arith) in
    get_d_cut n k i (drop k bits) (omega arith)
    ∙ ap (λ (r : List ℕ). num (take k r)) (drop-drop (k * i) k bits ∙ ap (λ (j : ℕ). drop j bits) e)

-- a number cut by widths
abbrev pub digits : List ℕ → ℕ → List ℕ
digits [] v = []
digits (k ∷ ks) v = (v / 2 ^ widths_sum ks % 2 ^ k) ∷ digits ks v

pub cut_digits : (ks : List ℕ) (v : ℕ) (rest : List ℕ) → cut ks (bits_of (widths_sum ks) v ++ rest) ≡ digits ks v
unfolding cut
cut_digits [] v rest = refl
cut_digits (k ∷ ks) v rest =
    let m = widths_sum ks in
    let first = bits_of k (v / 2 ^ m) in
    let e : bits_of (k + m) v ++ rest ≡ first ++ (bits_of m v ++ rest) =
    ap (λ (r : List ℕ). r ++ rest) (bits_of_add k m v) ∙ append_assoc first (bits_of m v) rest in
    let l : length first ≡ k = length_bits_of k (v / 2 ^ m) in
    ap₂ {C = List ℕ} (λ (x : ℕ) (xs : List ℕ). x ∷ xs)
    (ap (λ (r : List ℕ). num (take k r)) e ∙ ap num (take_at first (bits_of m v ++ rest) k l) ∙ num_bits_of k (v / 2 ^ m))
    (ap (λ (r : List ℕ). cut ks (drop k r)) e ∙ ap (cut ks) (drop_at first (bits_of m v ++ rest) k l) ∙ cut_digits ks v rest)

-- widths that the first bits fill see nothing of those behind
cut_front : (ks bits rest : List ℕ) → widths_sum ks ≤ length bits → cut ks (bits ++ rest) ≡ cut ks bits
unfolding cut
cut_front [] bits rest h = refl
cut_front (k ∷ ks) bits rest h =
    let l : k ≤ length bits = omega arith in
    ap₂ {C = List ℕ} (λ (x : ℕ) (xs : List ℕ). x ∷ xs)
    (ap num (take-append-le k bits rest l))
    (ap (cut ks) (drop-append-le k bits rest l) ∙ cut_front ks (drop k bits) rest (rw length-drop (omega arith)))

-- a number's bits and nothing else
pub cut_number : (ks : List ℕ) (v : ℕ) → cut ks (bits_of (widths_sum ks) v) ≡ digits ks v
cut_number ks v = ap (cut ks) (sym (append-nil (bits_of (widths_sum ks) v))) ∙ cut_digits ks v []

-- where the first bits fill the first widths, each part is cut by itself
pub cut_join : (ks js bits rest : List ℕ) → length bits ≡ widths_sum ks → cut (ks ++ js) (bits ++ rest) ≡ cut ks bits ++ cut js rest
cut_join ks js bits rest e =
    cut_append ks js (bits ++ rest)
    ∙ ap₂ (λ (x y : List ℕ). x ++ cut js y) (cut_front ks bits rest (omega arith)) (drop_at bits rest (widths_sum ks) e)

-- what is cut fits its width
pub fit_cut : (ks bits : List ℕ) → Bits bits → Fit ks (cut ks bits)
unfolding cut
fit_cut [] bits h = none
fit_cut (k ∷ ks) bits h =
    let small : length (take k bits) ≤ k = rw length-take (omega arith) in
    more (lt_of_lt_of_le (num_lt (take k bits) (bits_take k bits h)) (pow_mono small)) (fit_cut ks (drop k bits) (bits_drop k bits h))

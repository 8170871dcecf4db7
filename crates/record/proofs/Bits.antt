-- Laws of a number's bits, over any width: how many they are, what they stand for, and how two numbers' bits join.
use mathlib.Core.Path.{◌≡◌, refl, sym, ap, ap₂, ◌∙◌}
use mathlib.Core.List.{List, [], ◌∷◌, ◌++◌}
use Prim.Native.Nat.{ℕ, zero, suc, ◌+◌, ◌*◌, ◌/◌, ◌%◌, ◌^◌, ◌<◌}
use native.Mathlib.Nat.{zero-add, suc-add, add_comm, mul_assoc, mul_comm, pow-suc, mod-one, mod-eq_of_lt, mul-add-div_right, mul-add-mod_self_right, le_refl}
use native.Mathlib.Numerals.{one-add}
use native.Mathlib.Omega.{arith}
use lib.ListN.{length, take, drop}
use lib.Seq.{take_at, drop_at}
use lib.Pow.{pow_pos, mod-pow-add, shr-shr, high}
use lib.Arith.{digits_lt}
use Rattle.record.specs.Bits.{bits_of, num}

-- each is 0 or 1
abbrev pub Bits : List ℕ → Type 0
Bits [] = Unit {0}
Bits (b ∷ bits) = (b < 2) × Bits bits

pub length_bits_of : (k v : ℕ) → length (bits_of k v) ≡ k
unfolding bits_of
length_bits_of zero v = refl
length_bits_of (suc k) v = ap suc (length_bits_of k v)

pub are_bits : (k v : ℕ) → Bits (bits_of k v)
unfolding bits_of
are_bits zero v = tt
are_bits (suc k) v = (omega arith, are_bits k v)

pub bits_append : (cs bs : List ℕ) → Bits cs → Bits bs → Bits (cs ++ bs)
bits_append [] bs h l = l
bits_append (c ∷ cs) bs h l = (h.0, bits_append cs bs h.1 l)

-- k bits stand for the number's rest by two to the k
pub num_bits_of : (k v : ℕ) → num (bits_of k v) ≡ v % 2 ^ k
unfolding bits_of num
num_bits_of zero v = sym (mod-one v)
num_bits_of (suc k) v =
    ap₂ (λ (n r : ℕ). v / 2 ^ k % 2 * 2 ^ n + r) (length_bits_of k v) (num_bits_of k v)
    ∙ sym (mod-pow-add v 1 k)
    ∙ ap (λ (n : ℕ). v % 2 ^ n) (one-add k)

-- what lies above k bits is not seen in them
bits_of_low : (k u v : ℕ) → bits_of k (u * 2 ^ k + v) ≡ bits_of k v
unfolding bits_of
bits_of_low zero u v = refl
bits_of_low (suc k) u v =
    let e : u * 2 ^ suc k ≡ (u * 2) * 2 ^ k = ap (λ (x : ℕ). u * x) (pow-suc 2 k ∙ mul_comm (2 ^ k) 2) ∙ sym (mul_assoc u 2 (2 ^ k)) in
    rw e
    (ap₂ {C = List ℕ} (λ (x : ℕ) (xs : List ℕ). x ∷ xs)
    (ap (λ (x : ℕ). x % 2) (mul-add-div_right (pow_pos k) (u * 2) v) ∙ mul-add-mod_self_right u 2 (v / 2 ^ k))
    (bits_of_low k (u * 2) v))

-- the first j of j + k bits are those of the number without its k last ones
pub bits_of_add : (j k v : ℕ) → bits_of (j + k) v ≡ bits_of j (v / 2 ^ k) ++ bits_of k v
unfolding bits_of
bits_of_add zero k v = ap (λ (n : ℕ). bits_of n v) (zero-add k)
bits_of_add (suc j) k v =
    ap (λ (n : ℕ). bits_of n v) (suc-add j k)
    ∙ ap₂ {C = List ℕ} (λ (x : ℕ) (xs : List ℕ). x % 2 ∷ xs)
    (ap (λ (n : ℕ). v / 2 ^ n) (add_comm j k) ∙ sym (shr-shr v k j))
    (bits_of_add j k v)

-- the bits of two numbers, one behind the other, are those of one number
pub join : (j k u v : ℕ) → v < 2 ^ k → bits_of j u ++ bits_of k v ≡ bits_of (j + k) (u * 2 ^ k + v)
join j k u v h =
    sym
    (bits_of_add j k (u * 2 ^ k + v)
    ∙ ap₂ (λ (x : ℕ) (xs : List ℕ). bits_of j x ++ xs) (high u k h) (bits_of_low k u v))

pub num_lt : (bits : List ℕ) → Bits bits → num bits < 2 ^ length bits
unfolding num
num_lt [] h = le_refl 1
num_lt (b ∷ bits) h = rw (pow-suc, mul_comm (2 ^ length bits) 2) (digits_lt h.0 (num_lt bits h.1))

-- bits are those of the number that they stand for
pub bits_of_num : (bits : List ℕ) → Bits bits → bits_of (length bits) (num bits) ≡ bits
unfolding bits_of num
bits_of_num [] h = refl
bits_of_num (b ∷ bits) h =
    ap₂ {C = List ℕ} (λ (x : ℕ) (xs : List ℕ). x ∷ xs)
    (ap (λ (x : ℕ). x % 2) (high b (length bits) (num_lt bits h.1)) ∙ mod-eq_of_lt h.0)
    (bits_of_low (length bits) b (num bits) ∙ bits_of_num bits h.1)

-- a field inside a value: k bits behind r others and before m others
pub field : (r k m v : ℕ) → num (take k (drop r (bits_of (r + (k + m)) v))) ≡ v / 2 ^ m % 2 ^ k
field r k m v =
    ap (λ (bits : List ℕ). num (take k (drop r bits))) (bits_of_add r (k + m) v)
    ∙ ap (λ (bits : List ℕ). num (take k bits)) (drop_at (bits_of r (v / 2 ^ (k + m))) (bits_of (k + m) v) r (length_bits_of r (v / 2 ^ (k + m))))
    ∙ ap (λ (bits : List ℕ). num (take k bits)) (bits_of_add k m v)
    ∙ ap num (take_at (bits_of k (v / 2 ^ m)) (bits_of m v) k (length_bits_of k (v / 2 ^ m)))
    ∙ num_bits_of k (v / 2 ^ m)

-- Numbers as bits, most significant first, and rows of numbers packed by their widths.
use Rattle.std.specs.Prelude.{List, [], ◌∷◌, ◌++◌, ℕ, zero, suc, ◌+◌, ◌*◌, ◌/◌, ◌%◌, ◌^◌, ◌<◌, length, take, drop, get_or, replicate}

-- v in k bits, most significant first
unfoldable pub bits_of : ℕ → ℕ → List ℕ
bits_of zero v = []
bits_of (suc k) v = (v / 2 ^ k % 2) ∷ bits_of k v

-- the number that bits stand for, most significant first
unfoldable pub num : List ℕ → ℕ
num [] = 0
num (b ∷ bits) = b * 2 ^ length bits + num bits

-- values one after another, each in as many bits as its width says
unfoldable pub pack : List ℕ → List ℕ → List ℕ
pack [] vs = []
pack (k ∷ ks) [] = []
pack (k ∷ ks) (v ∷ vs) = bits_of k v ++ pack ks vs

-- bits cut into values by their widths
unfoldable pub cut : List ℕ → List ℕ → List ℕ
cut [] bits = []
cut (k ∷ ks) bits = num (take k bits) ∷ cut ks (drop k bits)

-- bytes are values of 8 bits
abbrev pub bytewise : ℕ → List ℕ
bytewise n = replicate n 8

-- the bits of a row of bytes
abbrev pub bits_of_bytes : List ℕ → List ℕ
bits_of_bytes bytes = pack (bytewise (length bytes)) bytes

-- each is a byte
abbrev pub Bytes : List ℕ → Type 0
Bytes bytes = (k : ℕ) → get_or bytes k 0 < 256

-- Mixtures of rows of samples, and what it means that a sum is linear in them.
use Rattle.std.specs.Prelude.{◌≡◌, List, [], ◌∷◌, ℕ, ◌+◌, ◌≤◌, length, get_or, replicate}

-- two rows of one length, added place by place
unfoldable pub mix : List ℕ → List ℕ → List ℕ
mix [] ys = []
mix (x ∷ xs) [] = []
mix (x ∷ xs) (y ∷ ys) = (x + y) ∷ mix xs ys

-- any number of rows of n samples, added place by place
unfoldable pub mixture : ℕ → List (List ℕ) → List ℕ
mixture n [] = replicate n 0
mixture n (xs ∷ xss) = mix xs (mixture n xss)

-- what P says holds of each
abbrev pub Each : {A : Type 0} → (A → Type 0) → List A → Type 0
Each P [] = Unit {0}
Each P (x ∷ xs) = P x × Each P xs

-- each row has n samples
abbrev pub Rows : ℕ → List (List ℕ) → Type 0
Rows n xss = Each (λ xs. length xs ≡ n) xss

-- no sample of xs is above that of ys at its place
abbrev pub Below : List ℕ → List ℕ → Type 0
Below xs ys = (k : ℕ) → get_or xs k 0 ≤ get_or ys k 0

-- F of two rows of n samples that are mixed is the sum of both
pub record Linear (n : ℕ) (F : List ℕ → ℕ) : Type 0 where
  pub adds : (xs ys : List ℕ) → length xs ≡ n → length ys ≡ n → F (mix xs ys) ≡ F xs + F ys

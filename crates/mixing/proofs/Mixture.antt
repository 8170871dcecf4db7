-- Laws of mixtures: lengths, places, zeros, and how linear sums are made of linear sums.
use mathlib.Core.Path.{◌≡◌, refl, ◌∙◌, sym, ap, ap₂}
use mathlib.Core.Bool.{Bool, true, false, cond}
use mathlib.Core.List.{List, [], ◌∷◌}
use Prim.Native.Nat.{ℕ, zero, suc, ◌+◌, ◌*◌, ◌-◌, ◌≤◌}
use native.Mathlib.Nat.{mul-add, add-zero}
use native.Mathlib.Omega.{arith}
use lib.ListN.{length, get_or, replicate, length-replicate}
use Rattle.mixing.specs.Sum.{weighted}
use Rattle.mixing.specs.Mixture.{mix, mixture, Rows, Below, Linear}
use Rattle.mixing.proofs.Sum.{total_ext, total_add}

pub length_mix : (n : ℕ) (xs ys : List ℕ) → length xs ≡ n → length ys ≡ n → length (mix xs ys) ≡ n
unfolding mix
length_mix n [] ys p q = p
length_mix n (x ∷ xs) [] p q = q
length_mix zero (x ∷ xs) (y ∷ ys) p q = absurd (omega arith)
length_mix (suc n) (x ∷ xs) (y ∷ ys) p q = ap suc (length_mix n xs ys (omega arith) (omega arith))

pub length_mixture : (n : ℕ) (xss : List (List ℕ)) → Rows n xss → length (mixture n xss) ≡ n
unfolding mixture
length_mixture n [] r = length-replicate n 0
length_mixture n (xs ∷ xss) r = length_mix n xs (mixture n xss) r.0 (length_mixture n xss r.1)

-- the mixture's sample at a place is the sum of both
pub get_d_mix : (k : ℕ) (xs ys : List ℕ) → length xs ≡ length ys → get_or (mix xs ys) k 0 ≡ get_or xs k 0 + get_or ys k 0
unfolding mix
get_d_mix k [] [] e = refl
get_d_mix k [] (y ∷ ys) e = absurd (omega arith)
get_d_mix k (x ∷ xs) [] e = absurd (omega arith)
get_d_mix zero (x ∷ xs) (y ∷ ys) e = refl
get_d_mix (suc k) (x ∷ xs) (y ∷ ys) e = get_d_mix k xs ys (omega arith)

-- a row mixed with darkness is itself
pub mix_zeros : (n : ℕ) (xs : List ℕ) → length xs ≡ n → mix xs (replicate n 0) ≡ xs
unfolding mix
mix_zeros zero [] e = refl
mix_zeros (suc n) [] e = refl
mix_zeros zero (x ∷ xs) e = absurd (omega arith)
mix_zeros (suc n) (x ∷ xs) e = ap₂ (λ (y : ℕ) (ys : List ℕ). y ∷ ys) (add-zero x) (mix_zeros n xs (omega arith))

-- what is left of ys where xs is taken away, place by place
left : List ℕ → List ℕ → List ℕ
left [] ys = []
left (x ∷ xs) [] = []
left (x ∷ xs) (y ∷ ys) = (y - x) ∷ left xs ys

length_left : (xs ys : List ℕ) → length xs ≡ length ys → length (left xs ys) ≡ length xs
unfolding left
length_left [] ys e = refl
length_left (x ∷ xs) [] e = absurd (omega arith)
length_left (x ∷ xs) (y ∷ ys) e = ap suc (length_left xs ys (omega arith))

mix_left : (xs ys : List ℕ) → length xs ≡ length ys → Below xs ys → mix xs (left xs ys) ≡ ys
unfolding left mix
mix_left [] [] e b = refl
mix_left [] (y ∷ ys) e b = absurd (omega arith)
mix_left (x ∷ xs) [] e b = absurd (omega arith)
mix_left (x ∷ xs) (y ∷ ys) e b =
    let h : x ≤ y = b 0 in
    ap₂ (λ (z : ℕ) (zs : List ℕ). z ∷ zs) (omega arith) (mix_left xs ys (omega arith) (λ k. b (suc k)))

module _ (n : ℕ) where
  -- a linear sum of a row with no sample above another's is no larger
  pub linear_order :
      (F : List ℕ → ℕ) → Linear n F → (xs ys : List ℕ) → length xs ≡ n → length ys ≡ n → Below xs ys → F xs ≤ F ys
  linear_order F lin xs ys p q b =
      let same = p ∙ sym q in
      omega (arith, lin.adds xs (left xs ys) p (length_left xs ys same ∙ p), ap F (mix_left xs ys same b))

  pub linear_zeros : (F : List ℕ → ℕ) → Linear n F → F (replicate n 0) ≡ 0
  linear_zeros F lin =
      let z : List ℕ = replicate n 0 in
      let l : length z ≡ n = length-replicate n 0 in
      omega (arith, lin.adds z z l l, ap F (mix_zeros n z l))

  -- a row's part in the mixture, and the others'
  pub linear_mixture :
      (F : List ℕ → ℕ) → Linear n F → (xs : List ℕ) (xss : List (List ℕ)) → Rows n (xs ∷ xss) →
      F (mixture n (xs ∷ xss)) ≡ F xs + F (mixture n xss)
  unfolding mixture
  linear_mixture F lin xs xss r = lin.adds xs (mixture n xss) r.0 (length_mixture n xss r.1)

  pub linear_plus : (F G : List ℕ → ℕ) → Linear n F → Linear n G → Linear n (λ xs. F xs + G xs)
  linear_plus F G f g = record { adds = λ xs ys p q. omega (arith, f.adds xs ys p q, g.adds xs ys p q) }

  pub linear_times : (c : ℕ) (F : List ℕ → ℕ) → Linear n F → Linear n (λ xs. c * F xs)
  linear_times c F f = record {
    adds = λ xs ys p q. ap (λ (x : ℕ). c * x) (f.adds xs ys p q) ∙ mul-add c (F xs) (F ys);
  }

  -- one of two, by a test that the samples don't tell
  pub linear_cond : (b : Bool) (F G : List ℕ → ℕ) → Linear n F → Linear n G → Linear n (λ xs. cond b (F xs) (G xs))
  linear_cond true F G f g = f
  linear_cond false F G f g = g

  -- a weighted sum over a line that is linear at each place
  pub linear_weighted :
      (m : ℕ) (v : ℕ → ℕ) (line : List ℕ → ℕ → ℕ) → ((k : ℕ) → Linear n (λ xs. line xs k)) →
      Linear n (λ xs. weighted m v (line xs))
  unfolding weighted
  linear_weighted m v line f = record {
    adds = λ xs ys p q.
        total_ext m (λ k. v k * line (mix xs ys) k) (λ k. v k * line xs k + v k * line ys k)
        (λ k h. (linear_times (v k) (λ zs. line zs k) (f k)).adds xs ys p q)
        ∙ total_add m (λ k. v k * line xs k) (λ k. v k * line ys k);
  }

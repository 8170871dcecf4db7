-- Laws of sums over places: equal and ordered terms, sums of sums, and a factor.
use mathlib.Core.Path.{◌≡◌, refl, ◌∙◌, sym, ap, ap₂}
use mathlib.Core.List.{List, [], ◌∷◌}
use Prim.Native.Nat.{ℕ, zero, suc, ◌+◌, ◌*◌, ◌≤◌, ◌<◌}
use native.Mathlib.Nat.{le_refl, le_trans, le_of_eq, add-le-add, mul-add, add-mul, mul-zero, mul_comm, mul_assoc, mul-le-mul_right}
use native.Mathlib.Numerals.{add-one}
use native.Mathlib.Decide.{le_ind}
use native.Mathlib.Omega.{arith}
use lib.ListN.{length, get_or}
use Rattle.mixing.specs.Sum.{total, weighted, sum_of}

pub total_ext : (n : ℕ) (f g : ℕ → ℕ) → ((k : ℕ) → k < n → f k ≡ g k) → total n f ≡ total n g
unfolding total
total_ext zero f g e = refl
total_ext (suc n) f g e = ap₂ (λ (x y : ℕ). x + y) (total_ext n f g (λ k h. e k (omega arith))) (e n (le_refl (suc n)))

total_le : (n : ℕ) (f g : ℕ → ℕ) → ((k : ℕ) → k < n → f k ≤ g k) → total n f ≤ total n g
unfolding total
total_le zero f g e = le_refl 0
total_le (suc n) f g e = add-le-add (total_le n f g (λ k h. e k (omega arith))) (e n (le_refl (suc n)))

pub total_none : (n : ℕ) (f : ℕ → ℕ) → ((k : ℕ) → f k ≡ 0) → total n f ≡ 0
unfolding total
total_none zero f e = refl
total_none (suc n) f e = rw (total_none n f e, e n)

pub total_add : (n : ℕ) (f g : ℕ → ℕ) → total n (λ k. f k + g k) ≡ total n f + total n g
unfolding total
total_add zero f g = refl
total_add (suc n) f g = let ih : total n (λ k. f k + g k) ≡ total n f + total n g = total_add n f g in omega arith

pub total_mul : (c n : ℕ) (f : ℕ → ℕ) → total n (λ k. c * f k) ≡ c * total n f
unfolding total
total_mul c zero f = sym (mul-zero c)
total_mul c (suc n) f = ap (λ (x : ℕ). x + c * f n) (total_mul c n f) ∙ sym (mul-add c (total n f) (f n))

-- the first place apart
pub total_first : (n : ℕ) (f : ℕ → ℕ) → total (suc n) f ≡ f 0 + total n (λ k. f (suc k))
unfolding total
total_first zero f = omega arith
total_first (suc n) f = let ih : total (suc n) f ≡ f 0 + total n (λ k. f (suc k)) = total_first n f in omega arith

-- a list's entries add up to its sum
pub total_list : (xs : List ℕ) → total (length xs) (λ k. get_or xs k 0) ≡ sum_of xs
unfolding total sum_of
total_list [] = refl
total_list (x ∷ xs) = total_first (length xs) (λ k. get_or (x ∷ xs) k 0) ∙ ap (λ (y : ℕ). x + y) (total_list xs)

-- more places add up to no less
pub total_more : (k n : ℕ) (f : ℕ → ℕ) → k ≤ n → total k f ≤ total n f
unfolding total
total_more k n f h = le_ind (λ m. total k f ≤ total m f) (le_refl (total k f)) (λ m l p. omega arith) n h

-- a bound on the line bounds the weighted sum, so far and in all
pub weighted_bound :
    (bound k n : ℕ) (v t : ℕ → ℕ) → ((j : ℕ) → t j ≤ bound) → k ≤ n → weighted k v t ≤ bound * total n v
unfolding weighted
weighted_bound bound k n v t h l =
    le_trans
    (total_le k (λ j. v j * t j) (λ j. bound * v j) (λ j p. rw (mul_comm (v j) (t j)) (mul-le-mul_right (v j) (h j))))
    (le_trans (total_more k n (λ j. bound * v j) l) (le_of_eq (total_mul bound n v)))

pub weighted_one : (k : ℕ) (v t : ℕ → ℕ) → weighted (k + 1) v t ≡ weighted k v t + v k * t k
unfolding weighted total
weighted_one k v t = rw add-one

-- two lines, the first counted in units of B, are weighed together or apart
pub weighted_joined :
    (B n : ℕ) (v s t : ℕ → ℕ) → weighted n v (λ k. s k * B + t k) ≡ weighted n v s * B + weighted n v t
unfolding weighted total
weighted_joined B zero v s t = omega arith
weighted_joined B (suc n) v s t =
    let ih : weighted n v (λ k. s k * B + t k) ≡ weighted n v s * B + weighted n v t = weighted_joined B n v s t in
    let place = mul-add (v n) (s n * B) (t n) in
    let unit = mul_assoc (v n) (s n) B in
    let sum = add-mul (weighted n v s) (v n * s n) B in
    omega arith

pub weighted_ext :
    (n : ℕ) (v t u : ℕ → ℕ) → ((k : ℕ) → k < n → t k ≡ u k) → weighted n v t ≡ weighted n v u
unfolding weighted
weighted_ext n v t u e = total_ext n (λ k. v k * t k) (λ k. v k * u k) (λ k h. ap (λ (x : ℕ). v k * x) (e k h))

-- weight and line may change places
pub weighted_swap : (n : ℕ) (v t : ℕ → ℕ) → weighted n v t ≡ weighted n t v
unfolding weighted
weighted_swap n v t = total_ext n (λ k. v k * t k) (λ k. t k * v k) (λ k h. mul_comm (v k) (t k))

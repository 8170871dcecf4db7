-- A row that is filled from its front on: what is done, and then what is left, is the whole.
use Rattle.std.proofs.Common.{◌≡◌, ℕ, ◌+◌, ◌<◌, ◌≤◌, List, [], ◌∷◌, ◌++◌, length, get_or, take, drop, set, refl, arith, append_assoc}
use Rattle.std.proofs.lemmas.List.{drop_more, take_more_set, take_all, length-set, append-nil}

-- what is left begins with the element at its place
pub next : (xs : List ℕ) (i n : ℕ) → n ≡ i + 1 → i < length xs → drop i xs ≡ get_or xs i 0 ∷ drop n xs
next xs i n e h = rw (e, drop_more xs i 0 h)

-- the first of what is left is stored
stored :
    (row : List ℕ) (i n v : ℕ) (left whole : List ℕ) → n ≡ i + 1 → i < length row → take i row ++ v ∷ left ≡ whole →
    take n (set row i v) ++ left ≡ whole
stored row i n v left whole e h done = rw (e, take_more_set row i v h, append_assoc) done

pub ended : (row whole : List ℕ) (n : ℕ) → length row ≤ n → take n row ++ [] ≡ whole → row ≡ whole
ended row whole n h done = rw (take_all n row h, append-nil) at done

module _ (row : List ℕ) (i : ℕ) (whole : List ℕ) where
  pub stored_two :
      (n a b : ℕ) (left : List ℕ) → n ≡ i + 2 → i + 2 ≤ length row → take i row ++ a ∷ b ∷ left ≡ whole →
      take n (set (set row i a) (i + 1) b) ++ left ≡ whole
  stored_two n a b left e h done =
      stored (set row i a) (i + 1) n b left whole (omega arith) (simp length-set (omega arith))
      (stored row i (i + 1) a (b ∷ left) whole refl (omega arith) done)

  pub stored_five :
      (n a b c d e : ℕ) (left : List ℕ) → n ≡ i + 5 → i + 5 ≤ length row → take i row ++ a ∷ b ∷ c ∷ d ∷ e ∷ left ≡ whole →
      take n (set (set (set (set (set row i a) (i + 1) b) (i + 2) c) (i + 3) d) (i + 4) e) ++ left ≡ whole
  stored_five n a b c d e left q h done =
      let two = set (set row i a) (i + 1) b in
      let four = set (set two (i + 2) c) (i + 3) d in
      stored four (i + 4) n e left whole (omega arith) (simp length-set (omega arith))
      (stored (set two (i + 2) c) (i + 3) (i + 4) d (e ∷ left) whole (omega arith) (simp length-set (omega arith))
      (stored two (i + 2) (i + 3) c (d ∷ e ∷ left) whole (omega arith) (simp length-set (omega arith))
      (stored (set row i a) (i + 1) (i + 2) b (c ∷ d ∷ e ∷ left) whole (omega arith) (simp length-set (omega arith))
      (stored row i (i + 1) a (b ∷ c ∷ d ∷ e ∷ left) whole refl (omega arith) done))))

  pub stored_last : (a : ℕ) → i + 1 ≡ length row → take i row ++ a ∷ [] ≡ whole → set row i a ≡ whole
  stored_last a h done =
      ended (set row i a) whole (i + 1) (simp length-set (omega arith)) (stored row i (i + 1) a [] whole refl (omega arith) done)

  pub stored_last_three :
      (a b c : ℕ) → i + 3 ≡ length row → take i row ++ a ∷ b ∷ c ∷ [] ≡ whole → set (set (set row i a) (i + 1) b) (i + 2) c ≡ whole
  stored_last_three a b c h done =
      let two = set (set row i a) (i + 1) b in
      ended (set two (i + 2) c) whole (i + 3) (simp length-set (omega arith))
      (stored two (i + 2) (i + 3) c [] whole (omega arith) (simp length-set (omega arith))
      (stored (set row i a) (i + 1) (i + 2) b (c ∷ []) whole (omega arith) (simp length-set (omega arith))
      (stored row i (i + 1) a (b ∷ c ∷ []) whole refl (omega arith) done)))

-- What a draw d gives: the generator's words that choose from a few numbers.
use Rattle.std.specs.Prelude.{[], ◌∷◌, cond, ℕ, ◌+◌, ◌/◌, ◌%◌, get_or, eqb}

-- the entry at d % 16 of 1, 2, 5, 10, 1, 2, 5, 10, 1, 2, 5, 10, 1, 2, 3, 0
abbrev pub step_from : ℕ → ℕ
step_from d = get_or (1 ∷ 2 ∷ 5 ∷ 10 ∷ 1 ∷ 2 ∷ 5 ∷ 10 ∷ 1 ∷ 2 ∷ 5 ∷ 10 ∷ 1 ∷ 2 ∷ 3 ∷ 0 ∷ []) (d % 16) 0

-- 300 + d % 81, and where d % 13 is 0, the entry at d / 13 % 4 of 299, 381, 0, 4294967295
abbrev pub start_from : ℕ → ℕ
start_from d = cond (eqb (d % 13) 0) (get_or (299 ∷ 381 ∷ 0 ∷ 4294967295 ∷ []) (d / 13 % 4) 0) (300 + d % 81)

-- the entry at d % 16 of 2, 10, 2, 10, 2, 10, 2, 10, 32, 40, 32, 40, 32, 40, 3, 0
abbrev pub observer_from : ℕ → ℕ
observer_from d = get_or (2 ∷ 10 ∷ 2 ∷ 10 ∷ 2 ∷ 10 ∷ 2 ∷ 10 ∷ 32 ∷ 40 ∷ 32 ∷ 40 ∷ 32 ∷ 40 ∷ 3 ∷ 0 ∷ []) (d % 16) 0

-- the entry at d % 8 of 1, 2, 1, 2, 1, 2, 0, 3
abbrev pub illuminant_from : ℕ → ℕ
illuminant_from d = get_or (1 ∷ 2 ∷ 1 ∷ 2 ∷ 1 ∷ 2 ∷ 0 ∷ 3 ∷ []) (d % 8) 0

-- T: the spectrum times its step at any wavelength, and W: its weighted sum.
use Rattle.std.specs.Prelude.{Bool, cond, ◌&&◌, List, ℕ, ◌+◌, ◌*◌, ◌-◌, ◌/◌, ◌%◌, length, get_or, leb, ltb}
use Rattle.grid.specs.Check.{last_of}
use Rattle.mixing.specs.Sum.{weighted}

-- d nanometres above sample i, with e = s · i + d and d less than s: (s - d) times that sample plus d times the next one
unfoldable pub line_at : ℕ → List ℕ → ℕ → ℕ
line_at s xs e = (s - e % s) * get_or xs (e / s) 0 + e % s * get_or xs (e / s + 1) 0

-- the wavelength w lies within the measured range
abbrev pub is_measured : ℕ → ℕ → ℕ → ℕ → Bool
is_measured a s n w = leb a w && leb w (last_of a s n)

-- outside the measured range T is s times the first sample below it, and s times the last one above it
unfoldable pub end_rule : ℕ → ℕ → List ℕ → ℕ → ℕ
end_rule a s xs w = s * get_or xs (cond (ltb w a) 0 (length xs - 1)) 0

-- T, s times the spectrum at the wavelength w: on the line within the measured range
unfoldable pub T : ℕ → ℕ → List ℕ → ℕ → ℕ
T a s xs w = cond (is_measured a s (length xs) w) (line_at s xs (w - a)) (end_rule a s xs w)

-- the sum, over the whole nanometres 360 to 830, of weight times T
unfoldable pub W : (ℕ → ℕ) → ℕ → ℕ → List ℕ → ℕ
W v a s xs = weighted 471 v (λ k. T a s xs (360 + k))

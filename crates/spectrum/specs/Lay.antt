-- T as a row, what a part must be to be laid, and how far it is laid: no promise to a caller rests on the reading of this.
use Rattle.std.specs.Prelude.{◌≡◌, true, List, [], ◌∷◌, ℕ, zero, suc, ◌+◌, ◌*◌, ◌-◌, ◌≤◌, ◌<◌, slice_index}
use Rattle.grid.specs.Check.{is_step}
use Rattle.grid.specs.Filled.{FilledTo}
use Rattle.spectrum.specs.Line.{T}

-- the first n values of f
unfoldable pub listed : ℕ → (ℕ → ℕ) → List ℕ
listed zero f = []
listed (suc n) f = f 0 ∷ listed n (λ k. f (suc k))

-- T at the whole nanometres 360 to 830
unfoldable pub row_of : ℕ → ℕ → List ℕ → List ℕ
row_of a s xs = listed 471 (λ k. T a s xs (360 + k))

-- at one of the steps, n samples from a on: the first is at, above or just below 360, and the last from 780 to 830
pub record Part (a s n : ℕ) : Type 0 where
  pub step_allowed : is_step s ≡ true
  pub step_low : 1 ≤ s
  pub step_high : s ≤ 10
  pub near : 360 < a + s
  pub start_high : a ≤ 380
  pub some : 1 ≤ n
  pub last_low : 780 ≤ a + s * (n - 1)
  pub last_high : a + s * (n - 1) ≤ 830

-- at the places from low to below high T is s times sample i
abbrev pub AtEnd : ℕ → ℕ → List ℕ → ℕ → ℕ → ℕ → Type 0
AtEnd a s xs i low high = (q : ℕ) → low ≤ q → q < high → T a s xs (360 + q) ≡ s * slice_index xs i

-- of a row of 471 places those below k hold T
abbrev pub LaidTo : ℕ → ℕ → List ℕ → List ℕ → ℕ → Type 0
LaidTo a s xs row k = FilledTo 471 (λ q. T a s xs (360 + q)) row k

-- A row that is filled place by place: no promise to a caller rests on the reading of this.
use Rattle.std.specs.Prelude.{◌≡◌, List, ℕ, ◌<◌, length, get_or}

-- of a row of n places, those below k hold what f says
pub record FilledTo (n : ℕ) (f : ℕ → ℕ) (row : List ℕ) (k : ℕ) : Type 0 where
  pub long : length row ≡ n
  pub filled : (q : ℕ) → q < k → get_or row q 0 ≡ f q

-- A grid that is accepted, by its bounds: no promise to a caller rests on the reading of this.
use Rattle.std.specs.Prelude.{◌≡◌, true, ℕ, ◌+◌, ◌*◌, ◌-◌, ◌≤◌}
use Rattle.grid.specs.Check.{is_step}

-- a grid that is accepted
pub record OnGrid (a s n : ℕ) : Type 0 where
  pub step_allowed : is_step s ≡ true
  pub step_low : 1 ≤ s
  pub step_high : s ≤ 10
  pub start_low : 300 ≤ a
  pub start_high : a ≤ 380
  pub some : 1 ≤ n
  pub many : n ≤ 531
  pub last_low : 780 ≤ a + s * (n - 1)
  pub last_high : a + s * (n - 1) ≤ 830

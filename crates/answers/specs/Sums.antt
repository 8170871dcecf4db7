-- Three exact sums, and what they must be for figures to be worked from them: no promise to a caller rests on the reading of this.
use Rattle.std.specs.Prelude.{ℕ, ◌≤◌, ◌^◌}
use Rattle.exact.specs.Fits.{Fits}

pub record Three : Type 0 where
  pub x : ℕ
  pub y : ℕ
  pub z : ℕ

-- so short that a number of 32 bits times one of them has no more than 128
pub record Short (t : Three) : Type 0 where
  pub x : t.x ≤ 2 ^ 96
  pub y : t.y ≤ 2 ^ 96
  pub z : t.z ≤ 2 ^ 96

-- X, Y, Z of three sums over d are numbers of 32 bits
pub record XyzFit (x y z d : ℕ) : Type 0 where
  pub x_fits : Fits x d
  pub y_fits : Fits y d
  pub z_fits : Fits z d

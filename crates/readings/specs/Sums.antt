-- What the sums of a row are, and what a mesopic one is divided by: no promise to a caller rests on the reading of this.
use Rattle.std.specs.Prelude.{List, ℕ, ◌+◌, ◌*◌, ◌-◌}
use Rattle.mixing.specs.Sum.{weighted, entry_of}
use Rattle.tables.specs.declared.Curve.{Curve}
use Rattle.tables.specs.declared.Curve.TheVariants.{YBar, VPrime}
use Rattle.tables.specs.declared.settings.Observer.{Observer}
use Rattle.tables.specs.Settings.{curves_of}
use Rattle.tables.specs.Curves.{weight_of}
use Rattle.efficacy.specs.Divisors.{divisor_of}
use Rattle.answers.specs.Sums.{Three}

-- 683 times the mesopic sum is divided by this
abbrev pub mesopic_divisor : ℕ → ℕ → ℕ
mesopic_divisor k s = k * (s * divisor_of YBar) + (1000 - k) * (s * divisor_of VPrime)

-- the sum of a row by a curve
abbrev pub row_sum : Curve → List ℕ → ℕ
row_sum c row = weighted 471 (weight_of c) (entry_of row)

-- those by each of the observer's curves
abbrev pub row_sums : Observer → List ℕ → Three
row_sums o row = record { x = row_sum (curves_of o).x row; y = row_sum (curves_of o).y row; z = row_sum (curves_of o).z row }

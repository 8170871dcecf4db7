-- How the code holds a curve's table, in units of powers of ten: no promise to a caller rests on the reading of this.
use Rattle.std.specs.Prelude.{◌≡◌, true, List, [], ◌∷◌, ℕ, suc, ◌*◌, ◌/◌, ◌≤◌}
use Rattle.mixing.specs.Sum.{total, entry_of}
use Rattle.tables.specs.Tables.{table}
use Rattle.tables.specs.Columns.{units}
use Rattle.tables.specs.Units.{unit_at, in_order}
use Rattle.tables.specs.declared.Curve.{Curve}
use Rattle.tables.specs.declared.units.Stretch.{Stretch}

-- a list from place k on, each entry counted in the unit of its place
unfoldable pub counted_from : ℕ → List Stretch → List ℕ → List ℕ
counted_from k u [] = []
counted_from k u (x ∷ xs) = x / unit_at u k ∷ counted_from (suc k) u xs

-- a curve's table as the code holds it
unfoldable pub in_units : Curve → List ℕ
in_units c = counted_from 0 (units c) (table c)

-- what is held, at its full value
abbrev pub value_of : List Stretch → List ℕ → ℕ → ℕ
value_of u xs k = unit_at u k * entry_of xs k

-- counts that fit 32 bits each, and add up to so little that a row's sum by them fits 64
pub record Counts (xs : List ℕ) : Type 0 where
  pub each : (k : ℕ) → entry_of xs k ≤ 4294967295
  pub all : total 471 (entry_of xs) ≤ 1000000000000

-- what a row can be summed by
pub record Held (u : List Stretch) (xs : List ℕ) : Type 0 where
  pub stretched : in_order 0 u ≡ true
  pub counts : Counts xs
  pub full : total 471 (value_of u xs) ≤ 2000000000000000

-- What is promised of the tables: length, exact sum and largest entry of each, the sums under an illuminant, that no digit is lost,
-- and the printed sums.
use Rattle.std.specs.Prelude.{◌≡◌, List, ℕ, ◌≤◌, get_or}
use Rattle.mixing.specs.Nearest.{nearest}
use Rattle.mixing.specs.Sum.{total, sum_of}
use Rattle.tables.specs.Tables.{table, powers}
use Rattle.tables.specs.Curves.{weight_of, lit_by}
use Rattle.tables.specs.Column.{largest, Column}
use Rattle.tables.specs.Columns.{table_sum, table_top, powers_sum, powers_top, lit_sum, units}
use Rattle.tables.specs.Held.{in_units, value_of}
use Rattle.tables.specs.declared.Curve.{Curve}
use Rattle.tables.specs.declared.Curve.TheVariants.{XBar, YBar, ZBar, XBar10, YBar10, ZBar10}
use Rattle.tables.specs.declared.Illuminant.{Illuminant}

-- the sum of a curve at 10^13 to one, rounded to 12 decimals
abbrev pub twelve_decimals : Curve → ℕ
twelve_decimals c = nearest (sum_of (table c)) 10

pub record Columns : Type 0 where
  -- of any list, no entry is above the largest
  pub bounded : (xs : List ℕ) (k : ℕ) → get_or xs k 0 ≤ largest xs
  pub column : (c : Curve) → Column (table c) (table_sum c) (table_top c)
  pub powers_column : (i : Illuminant) → Column (powers i) (powers_sum i) (powers_top i)
  pub lit : (i : Illuminant) (c : Curve) → total 471 (lit_by i c) ≡ lit_sum i c
  -- the code holds a curve's table in units, and no digit is lost
  pub no_digit_lost : (c : Curve) (k : ℕ) → value_of (units c) (in_units c) k ≡ weight_of c k
  -- 106.865469489595, 106.856917101172 and 106.892251278636 are printed for 1931
  pub x̄_printed : twelve_decimals XBar ≡ 106865469489595
  pub ȳ_printed : twelve_decimals YBar ≡ 106856917101172
  pub z̄_printed : twelve_decimals ZBar ≡ 106892251278636
  -- 116.648519508908, 116.661877102312 and 116.673980514647 for 1964
  pub x̄10_printed : twelve_decimals XBar10 ≡ 116648519508908
  pub ȳ10_printed : twelve_decimals YBar10 ≡ 116661877102312
  pub z̄10_printed : twelve_decimals ZBar10 ≡ 116673980514647

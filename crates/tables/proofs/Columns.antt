-- What is computed over each whole table, once: every bound of an entry, and of a sum by one table, is taken from here.
use mathlib.Core.Path.{◌≡◌, refl, ◌∙◌}
use Prim.Native.Nat.{ℕ, ◌≤◌}
use native.Mathlib.Nat.{le_trans}
use lib.Dec.{lit≤}
use lib.ListN.{length}
use Rattle.mixing.specs.Sum.{total, sum_of}
use Rattle.mixing.proofs.Sum.{total_list}
use Rattle.tables.specs.Tables.{table, powers}
use Rattle.tables.specs.Curves.{weight_of, power_of}
use Rattle.tables.specs.Column.{largest, Column}
use Rattle.tables.specs.Columns.{table_sum, table_top, powers_sum, powers_top}
use Rattle.tables.specs.declared.Curve.{Curve}
use Rattle.tables.specs.declared.Illuminant.{Illuminant}
use Rattle.tables.specs.declared.Illuminant.TheVariants.{A, D65}
use Rattle.tables.proofs.Each.{each}
use Rattle.tables.proofs.Largest.{at_most_largest}

pub column : (c : Curve) → Column (table c) (table_sum c) (table_top c)
unfolding table sum_of largest
column c = record {
  entries = each (λ c. length (table c)) (λ c. 471) refl c;
  adds_up = each (λ c. sum_of (table c)) table_sum refl c;
  largest_is = each (λ c. largest (table c)) table_top refl c;
}

pub powers_column : (i : Illuminant) → Column (powers i) (powers_sum i) (powers_top i)
unfolding powers sum_of largest
powers_column A = record { entries = refl; adds_up = refl; largest_is = refl }
powers_column D65 = record { entries = refl; adds_up = refl; largest_is = refl }

-- no power is above 26,160,200, the largest of both illuminants
pub power_bound : (i : Illuminant) (k : ℕ) → power_of i k ≤ 26160200
power_bound i k = le_trans (at_most_largest (powers i) k) (rw (powers_column i).largest_is (of_both i))
  where
    of_both : (i : Illuminant) → powers_top i ≤ 26160200
    of_both A = lit≤ tt
    of_both D65 = lit≤ tt

pub column_total : (c : Curve) → total 471 (weight_of c) ≡ table_sum c
column_total c = rw (column c).entries at (total_list (table c)) ∙ (column c).adds_up

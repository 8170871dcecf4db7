-- What the code holds of a curve's table loses no digit, and a row can be summed by it.
use mathlib.Core.Path.{◌≡◌, refl, sym, ◌∙◌, ap}
use mathlib.Core.List.{List, [], ◌∷◌}
use Prim.Native.Nat.{ℕ, zero, suc, ◌+◌, ◌*◌, ◌≤◌}
use native.Mathlib.Nat.{zero-add, mul-zero, le_trans}
use native.Mathlib.Omega.{arith}
use mathlib.Core.Bool.{true}
use borrow.Author.Tests.{leb-true}
use lib.Dec.{leb}
use lib.ListN.{length, get_or}
use Rattle.mixing.specs.Sum.{sum_of}
use Rattle.mixing.proofs.Sum.{total_ext, total_list}
use Rattle.tables.specs.Tables.{table}
use Rattle.tables.specs.Curves.{weight_of}
use Rattle.tables.specs.Column.{largest}
use Rattle.tables.specs.Columns.{units}
use Rattle.tables.specs.Units.{unit_at, in_order}
use Rattle.tables.specs.Held.{counted_from, in_units, value_of, Counts, Held}
use Rattle.tables.specs.declared.Curve.{Curve}
use Rattle.tables.specs.declared.units.Stretch.{Stretch}
use Rattle.tables.proofs.Each.{each, each_most}
use Rattle.tables.proofs.Largest.{at_most_largest}
use Rattle.tables.proofs.Columns.{column}
use Rattle.tables.proofs.Sums.{curve_sum}

-- a list from place k on, each entry at its full value
unfoldable values_from : ℕ → List Stretch → List ℕ → List ℕ
values_from k u [] = []
values_from k u (x ∷ xs) = unit_at u k * x ∷ values_from (suc k) u xs

value_at : (j k : ℕ) (u : List Stretch) (xs : List ℕ) → get_or (values_from j u xs) k 0 ≡ unit_at u (j + k) * get_or xs k 0
unfolding values_from
value_at j k u [] = sym (mul-zero (unit_at u (j + k)))
value_at j zero u (x ∷ xs) = ap (λ q. unit_at u q * x) (omega arith)
value_at j (suc k) u (x ∷ xs) = value_at (suc j) k u xs ∙ ap (λ q. unit_at u q * get_or xs k 0) (omega arith)

counted_length : (k : ℕ) (u : List Stretch) (xs : List ℕ) → length (counted_from k u xs) ≡ length xs
unfolding counted_from
counted_length k u [] = refl
counted_length k u (x ∷ xs) = ap suc (counted_length (suc k) u xs)

-- what is computed over each table as the code holds it
no_digit_lost : (c : Curve) → values_from 0 (units c) (in_units c) ≡ table c
unfolding values_from in_units counted_from unit_at table
no_digit_lost = each (λ c. values_from 0 (units c) (in_units c)) table refl

largest_held : (c : Curve) → largest (in_units c) ≤ 4294967295
unfolding largest in_units counted_from unit_at table
largest_held = each_most (λ c. largest (in_units c)) 4294967295 refl

sum_held : (c : Curve) → sum_of (in_units c) ≤ 1000000000000
unfolding sum_of in_units counted_from unit_at table
sum_held = each_most (λ c. sum_of (in_units c)) 1000000000000 refl

pub weighs : (c : Curve) (k : ℕ) → value_of (units c) (in_units c) k ≡ weight_of c k
weighs c k =
    sym (rw (zero-add k) at (value_at 0 k (units c) (in_units c)))
    ∙ ap (λ (xs : List ℕ). get_or xs k 0) (no_digit_lost c)

counts : (c : Curve) → Counts (in_units c)
unfolding in_units
counts c =
    let long = counted_length 0 (units c) (table c) ∙ (column c).entries in
    record {
      each = λ k. le_trans (at_most_largest (in_units c) k) (largest_held c);
      all = rw (rw long at (total_list (in_units c))) (sum_held c);
    }

pub held : (c : Curve) → Held (units c) (in_units c)
held c =
    record {
      stretched = each (λ c. in_order 0 (units c)) (λ c. true) refl c;
      counts = counts c;
      full = rw (total_ext 471 (value_of (units c) (in_units c)) (weight_of c) (λ k h. weighs c k)) (curve_sum c);
    }

-- What illuminant times curve adds up to, computed over each two whole tables.
use mathlib.Core.Path.{◌≡◌, refl, sym, ◌∙◌, ap}
use mathlib.Core.List.{List, [], ◌∷◌}
use Prim.Native.Nat.{ℕ, ◌+◌, ◌*◌}
use native.Mathlib.Omega.{arith}
use lib.ListN.{length, get_or}
use Rattle.mixing.specs.Sum.{total}
use Rattle.mixing.proofs.Sum.{total_first}
use Rattle.tables.specs.Tables.{table, powers}
use Rattle.tables.specs.Curves.{lit_by}
use Rattle.tables.specs.Columns.{lit_sum}
use Rattle.tables.specs.declared.Curve.{Curve}
use Rattle.tables.specs.declared.Illuminant.{Illuminant}
use Rattle.tables.specs.declared.Illuminant.TheVariants.{A, D65}
use Rattle.tables.proofs.Each.{each}
use Rattle.tables.proofs.Columns.{column, powers_column}

-- the sum of the products of two lists, place by place
unfoldable products_of : List ℕ → List ℕ → ℕ
products_of [] ys = 0
products_of (x ∷ xs) [] = 0
products_of (x ∷ xs) (y ∷ ys) = x * y + products_of xs ys

total_products : (xs ys : List ℕ) → length xs ≡ length ys → total (length xs) (λ k. get_or xs k 0 * get_or ys k 0) ≡ products_of xs ys
unfolding total products_of
total_products [] ys e = refl
total_products (x ∷ xs) [] e = absurd (omega arith)
total_products (x ∷ xs) (y ∷ ys) e =
    total_first (length xs) (λ k. get_or (x ∷ xs) k 0 * get_or (y ∷ ys) k 0)
    ∙ ap (λ (z : ℕ). x * y + z) (total_products xs ys (omega arith))

abbrev pub sum_under : Illuminant → Curve → ℕ
sum_under i c = total 471 (lit_by i c)

-- over the two lists it is computed in one walk
in_one_walk : (i : Illuminant) (c : Curve) → sum_under i c ≡ products_of (powers i) (table c)
in_one_walk i c =
    let long = (powers_column i).entries in
    rw long at (total_products (powers i) (table c) (long ∙ sym (column c).entries))

pub lit_sum_lem : (i : Illuminant) (c : Curve) → sum_under i c ≡ lit_sum i c
unfolding products_of table powers
lit_sum_lem A c = in_one_walk A c ∙ each (λ c. products_of (powers A) (table c)) (lit_sum A) refl c
lit_sum_lem D65 c = in_one_walk D65 c ∙ each (λ c. products_of (powers D65) (table c)) (lit_sum D65) refl c

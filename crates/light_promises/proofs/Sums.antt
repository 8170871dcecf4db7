-- The law of mixed light where the divisor is fixed: over any check, an answer whose values are linear sums over one number keeps to
-- half a unit a row, and to the order.
use mathlib.Core.Path.{◌≡◌, refl, ◌∙◌, sym, ap}
use mathlib.Core.List.{List, [], ◌∷◌, map, map-map}
use Prim.Native.Nat.{ℕ, ◌≤◌, ◌<◌}
use native.Mathlib.Omega.{arith}
use lib.ListN.{length, length-map}
use Rattle.grid.specs.Check.{Check, Fine}
use Rattle.grid.specs.Said.{Said, value, given}
use Rattle.mixing.specs.Nearest.{nearest}
use Rattle.mixing.specs.Mixture.{mixture, Each, Below, Linear}
use Rattle.mixing.proofs.Nearest.{nearest_none}
use Rattle.mixing.proofs.Illuminance.{illuminance}
use Rattle.light_promises.specs.Strings.{HalfTheirNumber}
use Rattle.light_promises.proofs.Each.{each_at, map_each}
use Rattle.light_promises.proofs.Passing.{Passing}
use Rattle.light_promises.proofs.SumAt.{sums_of, sum_at, none_linear, value_at}

-- an answer that is, of rows that pass a check, the nearest of linear sums over one number
pub record Sums (check : List ℕ → Check) (answer : List ℕ → Said) : Type 0 where
  pub sums : List (List ℕ → ℕ)
  pub divisor : ℕ
  pub linear : (n : ℕ) → Each (λ F. Linear n F) sums
  pub some : (xs : List ℕ) → check xs ≡ Fine → 0 < divisor
  pub is : (xs : List ℕ) → check xs ≡ Fine → answer xs ≡ given (map (λ x. nearest x divisor) (sums_of sums xs)) []

module _ {check : List ℕ → Check} {answer : List ℕ → Said} (it : Sums check answer) where
  abbrev sum : ℕ → List ℕ → ℕ
  sum i = sum_at it.sums i

  sum_linear : (i n : ℕ) → Linear n (sum i)
  sum_linear i n = each_at (λ F. Linear n F) (none_linear n) it.sums (it.linear n) i

  value_is : (i : ℕ) (xs : List ℕ) → check xs ≡ Fine → value (answer xs) i ≡ nearest (sum i xs) it.divisor
  value_is i xs fine =
      ap (λ (said : Said). value said i) (it.is xs fine)
      ∙ value_at (λ x. nearest x it.divisor) (nearest_none it.divisor) it.sums xs i

  pub half : (n : ℕ) (xss : List (List ℕ)) → 1 ≤ length xss → Passing check n xss → HalfTheirNumber (map answer xss) (answer (mixture n xss))
  half n [] some all i = absurd (omega arith)
  half n (xs ∷ xss) some all i =
      let differ = (illuminance n it.divisor (sum i) (sum_linear i n) (it.some xs all.each.0)).many xs xss all.rows in
      rw (
        length-map (xs ∷ xss) answer,
        value_is i (mixture n (xs ∷ xss)) all.mixed,
        map-map (λ said. value said i) answer (xs ∷ xss),
        map_each (value_is i) (xs ∷ xss) all.each,
      )
      (record { above = omega (arith, differ.above); below = omega (arith, differ.below) })

  pub ordered :
      (i : ℕ) (xs ys : List ℕ) → check xs ≡ Fine → check ys ≡ Fine → length xs ≡ length ys → Below xs ys →
      value (answer xs) i ≤ value (answer ys) i
  ordered i xs ys p q same below =
      let n = length xs in
      rw (value_is i xs p, value_is i ys q)
      ((illuminance n it.divisor (sum i) (sum_linear i n) (it.some xs p)).order xs ys refl (sym same) below)

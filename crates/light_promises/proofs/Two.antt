-- Two lights that are mixed are a string of two lamps: what is promised of mixing is the case of two.
use mathlib.Core.Path.{◌≡◌, refl, sym, ap}
use mathlib.Core.List.{List, [], ◌∷◌}
use Prim.Native.Nat.{ℕ, ◌≤◌}
use native.Mathlib.Nat.{add_comm}
use native.Mathlib.Omega.{arith}
use borrow.Author.Tests.{ne_eqb}
use lib.ListN.{length, get_or}
use Rattle.grid.specs.declared.refusals.Kind.TheVariants.{Dark}
use Rattle.grid.specs.Refusals.{number_of}
use Rattle.mixing.specs.Sum.{sum_of}
use Rattle.mixing.specs.Mixture.{mix, mixture}
use Rattle.mixing.proofs.Mixture.{get_d_mix, mix_zeros}
use Rattle.tables.specs.Column.{largest}
use Rattle.light_promises.specs.Lights.{Answer, Mixable, OneUnit, BothLit, OneDark, Mixing}
use Rattle.light_promises.specs.Strings.{Lamps, HalfTheirNumber, lit_of, least, Coloured, OfStrings}
use Rattle.light_promises.proofs.Instances.{amounts_of, colours_of}
use Rattle.light_promises.proofs.Strings.{lamps_accepted, halves, colours}

module _ (a s : ℕ) (xs ys : List ℕ) (both : Mixable a s xs ys) where
  two_mixed : mixture (length xs) (xs ∷ ys ∷ []) ≡ mix xs ys
  unfolding mixture
  two_mixed = ap (λ (zs : List ℕ). mix xs zs) (mix_zeros (length xs) ys (sym both.one_grid))

  two_lamps : Lamps 2 a s (length xs) (xs ∷ ys ∷ [])
  two_lamps = record {
    number = refl;
    accepted = (both.first, (both.second, tt));
    one_grid = (refl, (sym both.one_grid, tt));
    within = λ k. rw two_mixed (omega (arith, both.within k));
  }

  -- mixed the other way round, the samples are the same
  swapped : Mixable a s ys xs
  swapped = record {
    first = both.second;
    second = both.first;
    one_grid = sym both.one_grid;
    within = λ k.
        rw (get_d_mix k ys xs (sym both.one_grid), add_comm (get_or ys k 0) (get_or xs k 0))
        (rw (get_d_mix k xs ys both.one_grid) at (both.within k));
  }

module _ (answer : Answer) where
  one_unit : OfStrings 2 HalfTheirNumber answer → OneUnit answer
  unfolding sum_of
  one_unit two a s xs ys both i =
      let differ = rw (two_mixed a s xs ys both) at (two a s (length xs) (xs ∷ ys ∷ []) (two_lamps a s xs ys both) i) in
      record { above = omega (arith, differ.above); below = omega (arith, differ.below) }

  module _ (two : OfStrings 2 Coloured answer) where
    coloured : (a s : ℕ) (xs ys : List ℕ) → Mixable a s xs ys → Coloured (answer a s xs ∷ answer a s ys ∷ []) (answer a s (mix xs ys))
    coloured a s xs ys both =
        rw (two_mixed a s xs ys both) at (two a s (length xs) (xs ∷ ys ∷ []) (two_lamps a s xs ys both))

    both_lit : BothLit answer
    unfolding lit_of least largest
    both_lit a s xs ys both p q =
        let colour = rw (ne_eqb (answer a s xs).number (number_of Dark) p, ne_eqb (answer a s ys).number (number_of Dark) q) at
        (coloured a s xs ys both).between in
        let lit = colour (omega arith) in
        (lit.0, λ i. record { low = omega (arith, (lit.1 i).low); high = omega (arith, (lit.1 i).high) })

    one_dark : OneDark answer
    unfolding lit_of
    one_dark a s xs ys both p q =
        let lit = ne_eqb (answer a s ys).number (number_of Dark) q in (
          (coloured a s xs ys both).one_lit (answer a s ys) (rw (p, lit)),
          (coloured a s ys xs (swapped a s xs ys both)).one_lit (answer a s ys) (rw (p, lit)),
        )

pub mixing : Mixing
mixing =
    let some : 1 ≤ 2 = omega arith in
    record {
      accepted = λ a s xs ys both.
          rw (two_mixed a s xs ys both) at
          (lamps_accepted 2 some a s (length xs) (xs ∷ ys ∷ []) (two_lamps a s xs ys both));
      one_unit = amounts_of _ (λ answer sums. one_unit answer (halves 2 some answer sums));
      both_lit = colours_of _ (λ answer over. both_lit answer (colours 2 some answer over));
      one_dark = colours_of _ (λ answer over. one_dark answer (colours 2 some answer over));
    }

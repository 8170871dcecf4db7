-- What is computed alike over the list of all curves is equal at each of them: written by tools/tables.
use mathlib.Core.Path.{◌≡◌, ap}
use mathlib.Core.Bool.{true}
use mathlib.Core.List.{List, map}
use Prim.Native.Nat.{ℕ, ◌≤◌}
use borrow.Author.Tests.{leb-true}
use lib.Dec.{leb}
use lib.ListN.{get_or}
use Rattle.tables.specs.Columns.{curves}
use Rattle.tables.specs.declared.Curve.{Curve}
use Rattle.tables.specs.declared.Curve.TheVariants.{XBar, YBar, ZBar, XBar10, YBar10, ZBar10, VPrime, VF, VF10}

pub each : {A : Type 0} (f g : Curve → A) → map f curves ≡ map g curves → (c : Curve) → f c ≡ g c
each {A} f g e = go
  where
    at : (k : ℕ) → get_or (map f curves) k (f XBar) ≡ get_or (map g curves) k (f XBar)
    at k = ap (λ (xs : List A). get_or xs k (f XBar)) e

    go : (c : Curve) → f c ≡ g c
    go XBar = at 0
    go YBar = at 1
    go ZBar = at 2
    go XBar10 = at 3
    go YBar10 = at 4
    go ZBar10 = at 5
    go VPrime = at 6
    go VF = at 7
    go VF10 = at 8

-- so is a bound that no curve's number passes, or falls short of
pub each_most : (f : Curve → ℕ) (most : ℕ) → map (λ c. leb (f c) most) curves ≡ map (λ c. true) curves → (c : Curve) → f c ≤ most
each_most f most e c = leb-true (f c) most (each (λ c. leb (f c) most) (λ c. true) e c)

pub each_least : (f : Curve → ℕ) (least : ℕ) → map (λ c. leb least (f c)) curves ≡ map (λ c. true) curves → (c : Curve) → least ≤ f c
each_least f least e c = leb-true least (f c) (each (λ c. leb least (f c)) (λ c. true) e c)

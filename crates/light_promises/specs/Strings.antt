-- What is promised of whole strings of lamps: mixed light of any number of lights from one on, of which two are a case.
use Rattle.std.specs.Prelude.{◌≡◌, cond, List, [], ◌∷◌, map, ℕ, ◌/◌, ◌≤◌, ◌<◌, min, eqb, length}
use Rattle.grid.specs.declared.refusals.Kind.TheVariants.{Dark}
use Rattle.grid.specs.Refusals.{number_of}
use Rattle.grid.specs.Check.{Within, Fine, light_check}
use Rattle.grid.specs.Said.{Said, value}
use Rattle.mixing.specs.Sum.{sum_of}
use Rattle.mixing.specs.Mixture.{mixture, Each, Rows}
use Rattle.mixing.specs.Promises.{Differ}
use Rattle.tables.specs.Column.{largest}
use Rattle.light_promises.specs.Lights.{Answer, Between, Amounts, Colours, dark}

-- m accepted spectra on one grid of n samples, whose samples summed place by place stay within the limit
pub record Lamps (m a s n : ℕ) (xss : List (List ℕ)) : Type 0 where
  pub number : length xss ≡ m
  pub accepted : Each (λ xs. light_check a s xs ≡ Fine) xss
  pub one_grid : Rows n xss
  pub within : Within 1000000 (mixture n xss)

-- the value that each has at a place
abbrev pub values_at : ℕ → List Said → List ℕ
values_at i saids = map (λ said. value said i) saids

-- of what is said of lamps and of their mixture: each value of the mixture differs from the sum of the lamps' by at most half their
-- number, rounded down; that all are given is promised in `Range`
abbrev pub HalfTheirNumber : List Said → Said → Type 0
HalfTheirNumber lamps mixed = (i : ℕ) → Differ (length lamps / 2) (value mixed i) (sum_of (values_at i lamps))

-- those that are not dark
unfoldable pub lit_of : List Said → List Said
lit_of [] = []
lit_of (said ∷ saids) = cond (eqb said.number (number_of Dark)) (lit_of saids) (said ∷ lit_of saids)

-- the least entry of a list, 0 where it has none
unfoldable pub least : List ℕ → ℕ
least [] = 0
least (x ∷ []) = x
least (x ∷ y ∷ ys) = min x (least (y ∷ ys))

-- likewise of their coordinates
pub record Coloured (lamps : List Said) (mixed : Said) : Type 0 where
  -- where there is one that is not dark, the mixture is not, and each of its coordinates lies between the least and the greatest of
  -- those that are not
  pub between :
      let lit = lit_of lamps in
      0 < length lit →
      (mixed.number ≡ 0) × ((i : ℕ) → Between (least (values_at i lit)) (largest (values_at i lit)) (value mixed i))
  -- where there is exactly one, the mixture has its coordinates
  pub one_lit : (one : Said) → lit_of lamps ≡ one ∷ [] → mixed ≡ one
  -- where all are dark, so is the mixture
  pub all_dark : lit_of lamps ≡ [] → mixed ≡ dark

-- whatever string of m lamps is asked about, this holds of what is said of them and of their mixture
abbrev pub OfStrings : ℕ → (List Said → Said → Type 0) → Answer → Type 0
OfStrings m Holds answer =
    (a s n : ℕ) (xss : List (List ℕ)) → Lamps m a s n xss → Holds (map (answer a s) xss) (answer a s (mixture n xss))

-- a string of m lamps behaves
pub record StringOf (m : ℕ) : Type 0 where
  pub accepted : (a s n : ℕ) (xss : List (List ℕ)) → Lamps m a s n xss → light_check a s (mixture n xss) ≡ Fine
  pub amounts : Amounts (OfStrings m HalfTheirNumber)
  pub colours : Colours (OfStrings m Coloured)

-- of any number of lamps from one on; a ceiling has up to 64
pub record Strings : Type 0 where
  pub any_number : (m : ℕ) → 1 ≤ m → StringOf m
  pub ceiling : (m : ℕ) → 1 ≤ m → m ≤ 64 → StringOf m

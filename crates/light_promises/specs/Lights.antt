-- What is promised of mixed light, of light in order, of darkness, of the refusals of u′, v′ and the chart, and of the mesopic
-- reading by day and by night, said of these readings.
use Rattle.std.specs.Prelude.{◌≡◌, true, Ok, List, [], ◌∷◌, ◌++◌, ℕ, ◌+◌, ◌*◌, ◌≤◌, min, max, length, replicate}
use Rattle.grid.specs.declared.refusals.Kind.TheVariants.{Dark}
use Rattle.grid.specs.Refusals.{number_of}
use Rattle.grid.specs.Check.{Within, Fine, refusal, grid_check, light_check}
use Rattle.mixing.specs.Mixture.{mix, Below}
use Rattle.mixing.specs.Promises.{Differ}
use Rattle.tables.specs.declared.Curve.{Curve}
use Rattle.tables.specs.declared.Curve.TheVariants.{YBar, YBar10, VPrime, VF, VF10}
use Rattle.tables.specs.declared.settings.Observer.{Observer}
use Rattle.tables.specs.declared.settings.Observer.TheVariants.{Two}
use Rattle.tables.specs.Settings.{is_observer, observer_of, curves_of}
use Rattle.tables.specs.Curves.{weight_of}
use Rattle.spectrum.specs.Line.{T}
use Rattle.grid.specs.Said.{Said, value, given, refused_with, RefusedAs}
use Rattle.answers.specs.Said.{said_reading, said_xyz, said_xy, said_uv, said_chart}
use Rattle.readings.specs.Readings.{photopic_of, scotopic_of, photopic10_of, research_of, mesopic_of, xyz_of, xy_of, uv_of, chart_of, figures_of}
use Rattle.readings.specs.Figures.{said_figures}

-- m lies between a and b, ends included
pub record Between (a b m : ℕ) : Type 0 where
  pub low : min a b ≤ m
  pub high : m ≤ max a b

-- an answer by start, step and samples, as the rules' number, place and values
abbrev pub Answer : Type 0
Answer = ℕ → ℕ → List ℕ → Said

-- two accepted spectra on one grid, whose samples added place by place stay within the limit
pub record Mixable (a s : ℕ) (xs ys : List ℕ) : Type 0 where
  pub first : light_check a s xs ≡ Fine
  pub second : light_check a s ys ≡ Fine
  pub one_grid : length xs ≡ length ys
  pub within : Within 1000000 (mix xs ys)

-- each value of the mixture differs from the sum of the two by at most one unit; that all three are given is promised in `Range`
abbrev pub OneUnit : Answer → Type 0
OneUnit answer =
    (a s : ℕ) (xs ys : List ℕ) → Mixable a s xs ys → (i : ℕ) →
    Differ 1 (value (answer a s (mix xs ys)) i) (value (answer a s xs) i + value (answer a s ys) i)

-- where no sample of one is above the other's at its place, no value is; both are given, by `Range`
abbrev pub InOrder : Answer → Type 0
InOrder answer =
    (a s : ℕ) (xs ys : List ℕ) → light_check a s xs ≡ Fine → light_check a s ys ≡ Fine → length xs ≡ length ys → Below xs ys →
    (i : ℕ) → value (answer a s xs) i ≤ value (answer a s ys) i

-- refused as dark
abbrev pub IsDark : Said → Type 0
IsDark said = said.number ≡ number_of Dark

-- where neither is dark, neither is the mixture, and each of its coordinates lies between the two
abbrev pub BothLit : Answer → Type 0
BothLit answer =
    (a s : ℕ) (xs ys : List ℕ) → Mixable a s xs ys → (IsDark (answer a s xs) → ⊥) → (IsDark (answer a s ys) → ⊥) →
    ((answer a s (mix xs ys)).number ≡ 0)
    × ((i : ℕ) → Between (value (answer a s xs) i) (value (answer a s ys) i) (value (answer a s (mix xs ys)) i))

-- where exactly one is dark, the mixture has the other's
abbrev pub OneDark : Answer → Type 0
OneDark answer =
    (a s : ℕ) (xs ys : List ℕ) → Mixable a s xs ys → IsDark (answer a s xs) → (IsDark (answer a s ys) → ⊥) →
    (answer a s (mix xs ys) ≡ answer a s ys) × (answer a s (mix ys xs) ≡ answer a s ys)

-- each illuminance, and X, Y, Z
pub record Amounts (Holds : Answer → Type 0) : Type 0 where
  pub photopic : Holds (λ a s xs. said_reading (photopic_of a s xs))
  pub scotopic : Holds (λ a s xs. said_reading (scotopic_of a s xs))
  pub photopic_10 : Holds (λ a s xs. said_reading (photopic10_of a s xs))
  pub research_32 : Holds (λ a s xs. said_reading (research_of 32 a s xs))
  pub research_40 : Holds (λ a s xs. said_reading (research_of 40 a s xs))
  pub mesopic : (k : ℕ) → k ≤ 1000 → Holds (λ a s xs. said_reading (mesopic_of k a s xs))
  pub xyz : (o : ℕ) → is_observer o ≡ true → Holds (λ a s xs. said_xyz (xyz_of o a s xs))

-- x, y and u′, v′
pub record Colours (Holds : Answer → Type 0) : Type 0 where
  pub xy : (o : ℕ) → is_observer o ≡ true → Holds (λ a s xs. said_xy (xy_of o a s xs))
  pub uv : (o : ℕ) → is_observer o ≡ true → Holds (λ a s xs. said_uv (uv_of o a s xs))

-- mixing behaves
pub record Mixing : Type 0 where
  pub accepted : (a s : ℕ) (xs ys : List ℕ) → Mixable a s xs ys → light_check a s (mix xs ys) ≡ Fine
  pub one_unit : Amounts OneUnit
  pub both_lit : Colours BothLit
  pub one_dark : Colours OneDark

-- the order of the samples is kept
abbrev pub Order : Type 0
Order = Amounts InOrder

-- no light where the curve has any weight
abbrev pub Unlit : Curve → ℕ → ℕ → List ℕ → Type 0
Unlit c a s xs = (k : ℕ) → weight_of c k * T a s xs (360 + k) ≡ 0

-- and none where any of the observer's three has
abbrev pub Colourless : Observer → ℕ → ℕ → List ℕ → Type 0
Colourless o a s xs =
    Unlit (curves_of o).x a s xs × Unlit (curves_of o).y a s xs × Unlit (curves_of o).z a s xs

-- one reading of zero; X, Y and Z of zero; a colour refused as dark
abbrev pub nought : Said
nought = given (0 ∷ []) []

abbrev pub noughts : Said
noughts = given (0 ∷ 0 ∷ 0 ∷ []) []

abbrev pub dark : Said
dark = refused_with (refusal Dark 0)

pub record Darkness : Type 0 where
  -- a room with no light is accepted on every accepted grid, and has no light where any curve has weight
  pub accepted : (a s n : ℕ) → grid_check a s n ≡ Fine → light_check a s (replicate n 0) ≡ Fine
  pub zeros : (c : Curve) (a s n : ℕ) → Unlit c a s (replicate n 0)
  -- nor has light only in samples that no nanometre from 360 on feels: it is dark from a sample at or below 360 on
  pub unfelt :
      (c : Curve) (a s n : ℕ) (xs : List ℕ) → light_check a s (xs ++ replicate n 0) ≡ Fine → a + s * length xs ≤ 360 →
      Unlit c a s (xs ++ replicate n 0)
  pub photopic : (a s : ℕ) (xs : List ℕ) → light_check a s xs ≡ Fine → Unlit YBar a s xs → said_reading (photopic_of a s xs) ≡ nought
  pub scotopic : (a s : ℕ) (xs : List ℕ) → light_check a s xs ≡ Fine → Unlit VPrime a s xs → said_reading (scotopic_of a s xs) ≡ nought
  pub photopic_10 :
      (a s : ℕ) (xs : List ℕ) → light_check a s xs ≡ Fine → Unlit YBar10 a s xs → said_reading (photopic10_of a s xs) ≡ nought
  pub research_32 : (a s : ℕ) (xs : List ℕ) → light_check a s xs ≡ Fine → Unlit VF a s xs → said_reading (research_of 32 a s xs) ≡ nought
  pub research_40 : (a s : ℕ) (xs : List ℕ) → light_check a s xs ≡ Fine → Unlit VF10 a s xs → said_reading (research_of 40 a s xs) ≡ nought
  pub mesopic :
      (k a s : ℕ) (xs : List ℕ) → k ≤ 1000 → light_check a s xs ≡ Fine → Unlit YBar a s xs → Unlit VPrime a s xs →
      said_reading (mesopic_of k a s xs) ≡ nought
  pub xyz :
      (o a s : ℕ) (xs : List ℕ) (observer : Observer) → observer_of o ≡ Ok observer → light_check a s xs ≡ Fine → Colourless observer a s xs →
      said_xyz (xyz_of o a s xs) ≡ noughts
  pub xy :
      (o a s : ℕ) (xs : List ℕ) (observer : Observer) → observer_of o ≡ Ok observer → light_check a s xs ≡ Fine → Colourless observer a s xs →
      said_xy (xy_of o a s xs) ≡ dark
  pub uv :
      (o a s : ℕ) (xs : List ℕ) (observer : Observer) → observer_of o ≡ Ok observer → light_check a s xs ≡ Fine → Colourless observer a s xs →
      said_uv (uv_of o a s xs) ≡ dark
  pub chart :
      (o a s : ℕ) (xs : List ℕ) (observer : Observer) → observer_of o ≡ Ok observer → light_check a s xs ≡ Fine → Colourless observer a s xs →
      said_chart (chart_of o a s xs) ≡ dark
  -- the figures in one call: five zeros, and DARK for x and y
  pub figures :
      (a s : ℕ) (xs : List ℕ) → light_check a s xs ≡ Fine → Colourless Two a s xs → Unlit VPrime a s xs →
      said_figures (figures_of a s xs) ≡ given (0 ∷ 0 ∷ 0 ∷ 0 ∷ 0 ∷ number_of Dark ∷ 0 ∷ 0 ∷ []) []

-- u′ and v′ and the chart's point are refused exactly as x and y are
pub record RefusedAlike (xy uv chart : Said) : Type 0 where
  pub uv_refused : RefusedAs xy uv
  pub chart_refused : RefusedAs xy chart

-- so they are whatever is asked
abbrev pub ColourRefusals : Type 0
ColourRefusals =
    (o a s : ℕ) (xs : List ℕ) → RefusedAlike (said_xy (xy_of o a s xs)) (said_uv (uv_of o a s xs)) (said_chart (chart_of o a s xs))

-- at k = 0 the mesopic reading is the scotopic one and at k = 1000 the photopic one, refusals and all
pub record MesopicEnds : Type 0 where
  pub night : (a s : ℕ) (xs : List ℕ) → said_reading (mesopic_of 0 a s xs) ≡ said_reading (scotopic_of a s xs)
  pub day : (a s : ℕ) (xs : List ℕ) → said_reading (mesopic_of 1000 a s xs) ≡ said_reading (photopic_of a s xs)

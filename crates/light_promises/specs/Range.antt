-- What is promised of the range: an accepted light has its readings, each at most so much, and a light at the limit has that much.
use Rattle.std.specs.Prelude.{◌≡◌, true, List, [], ◌∷◌, ℕ, ◌*◌, ◌≤◌, ◌<◌, get_or, replicate}
use Rattle.grid.specs.Check.{Within, Fine, grid_check, light_check}
use Rattle.grid.specs.Said.{Said, value, given}
use Rattle.mixing.specs.Sum.{total}
use Rattle.tables.specs.Settings.{is_observer}
use Rattle.spectrum.specs.Line.{W}
use Rattle.answers.specs.Said.{said_reading, said_xyz, said_xy, said_uv, said_chart}
use Rattle.readings.specs.Readings.{photopic_of, scotopic_of, photopic10_of, research_of, mesopic_millilux, mesopic_of, xyz_of, xy_of, uv_of, chart_of, figures_of}
use Rattle.readings.specs.Figures.{said_figures}
use Rattle.light_promises.specs.Lights.{Answer, IsDark}

-- every accepted light has this answer, none of its values is above these, and the light of 1,000,000 at every sample has just
-- these, on any accepted grid
pub record Greatest (answer : Answer) (values : List ℕ) : Type 0 where
  pub is_given : (a s : ℕ) (xs : List ℕ) → light_check a s xs ≡ Fine → (answer a s xs).number ≡ 0
  pub at_most : (a s : ℕ) (xs : List ℕ) → light_check a s xs ≡ Fine → (i : ℕ) → value (answer a s xs) i ≤ get_or values i 0
  pub attained : (a s n : ℕ) → grid_check a s n ≡ Fine → answer a s (replicate n 1000000) ≡ given values []

-- the mesopic reading at k of that light, from 360 to 830 at step 1
abbrev pub mesopic_greatest : ℕ → ℕ
mesopic_greatest k = mesopic_millilux k 360 1 (replicate 471 1000000)

-- given, unless it is refused as dark
abbrev pub GivenUnlessDark : Said → Type 0
GivenUnlessDark said = (IsDark said → ⊥) → said.number ≡ 0

-- unless they are dark, x and y are given, each at most 100000, u′ and v′, at most 400000 and 60000, and the chart's point
pub record Coordinates (xy uv chart : Said) : Type 0 where
  pub xy_given : GivenUnlessDark xy
  pub xy_at_most : (i : ℕ) → value xy i ≤ 100000
  pub uv_given : GivenUnlessDark uv
  pub uv_at_most : (i : ℕ) → value uv i ≤ get_or (400000 ∷ 60000 ∷ []) i 0
  pub chart_given : GivenUnlessDark chart

pub record Range : Type 0 where
  -- for any weights and any row within a limit, W is at most s times the limit times the sum of the weights
  pub law :
      (v : ℕ → ℕ) (a s limit : ℕ) (xs : List ℕ) → 0 < s → Within limit xs → W v a s xs ≤ s * limit * total 471 v
  pub photopic : Greatest (λ a s xs. said_reading (photopic_of a s xs)) (72983452 ∷ [])
  pub scotopic : Greatest (λ a s xs. said_reading (scotopic_of a s xs)) (165033523 ∷ [])
  pub photopic_10 : Greatest (λ a s xs. said_reading (photopic10_of a s xs)) (79750145 ∷ [])
  pub research_32 : Greatest (λ a s xs. said_reading (research_of 32 a s xs)) (77248855 ∷ [])
  pub research_40 : Greatest (λ a s xs. said_reading (research_of 40 a s xs)) (80965642 ∷ [])
  pub mesopic : (k : ℕ) → k ≤ 1000 → Greatest (λ a s xs. said_reading (mesopic_of k a s xs)) (mesopic_greatest k ∷ [])
  -- the most of all is that at k = 0
  pub mesopic_any : (k : ℕ) → k ≤ 1000 → mesopic_greatest k ≤ mesopic_greatest 0
  pub mesopic_0 : mesopic_greatest 0 ≡ 165033523
  pub xyz : Greatest (λ a s xs. said_xyz (xyz_of 2 a s xs)) (72989293 ∷ 72983452 ∷ 73007585 ∷ [])
  pub xyz_10 : Greatest (λ a s xs. said_xyz (xyz_of 10 a s xs)) (79741014 ∷ 79750145 ∷ 79758419 ∷ [])
  pub coordinates :
      (o a s : ℕ) (xs : List ℕ) → is_observer o ≡ true → light_check a s xs ≡ Fine →
      Coordinates (said_xy (xy_of o a s xs)) (said_uv (uv_of o a s xs)) (said_chart (chart_of o a s xs))
  -- the figures in one call, dark or not
  pub figures : (a s : ℕ) (xs : List ℕ) → light_check a s xs ≡ Fine → (said_figures (figures_of a s xs)).number ≡ 0

-- What is promised of panels: X, Y, Z are given, and x, y and u′, v′ unless dark; none of X, Y, Z is above a white panel's, whose Y
-- is exactly 100000; a grey panel's Y is 10 times its reflectance; u′, v′ and the chart are refused as x and y are; and the order
-- of reflectances is kept.
use Rattle.std.specs.Prelude.{◌≡◌, cond, List, [], ◌∷◌, ℕ, ◌*◌, ◌≤◌, length, get_or, replicate, eqb}
use Rattle.grid.specs.Check.{Fine}
use Rattle.mixing.specs.Mixture.{Below}
use Rattle.grid.specs.Said.{Said, value, given}
use Rattle.answers.specs.Said.{said_xyz, said_xy, said_uv, said_chart}
use Rattle.panel.specs.Panel.{setting_check, panel_check, panel_xyz_of, panel_xy_of, panel_uv_of, panel_chart_of}
use Rattle.panel.specs.Figures.{panel_figures_of, said_panel_figures}
use Rattle.light_promises.specs.Lights.{RefusedAlike}
use Rattle.light_promises.specs.Range.{Coordinates}

-- X, Y, Z as the rules' number and values
abbrev pub said_panel_xyz : ℕ → ℕ → ℕ → ℕ → List ℕ → Said
said_panel_xyz o i a s rs = said_xyz (panel_xyz_of o i a s rs)

-- what observer 10 has in place of what observer 2 has
abbrev pub of_observer : {A : Type 0} → ℕ → A → A → A
of_observer o two ten = cond (eqb o 10) ten two

-- X, Y, Z of a white panel, every reflectance 10,000, for observer 2 and then for observer 10, under D65 and then under A
abbrev pub white_xyz : ℕ → ℕ → List ℕ
white_xyz o i =
    of_observer o (cond (eqb i 2) (95047 ∷ 100000 ∷ 108883 ∷ []) (109850 ∷ 100000 ∷ 35585 ∷ []))
    (cond (eqb i 2) (94811 ∷ 100000 ∷ 107305 ∷ []) (111144 ∷ 100000 ∷ 35200 ∷ []))

pub record Panels : Type 0 where
  -- the X, Y, Z of a panel that is accepted are given, and none is above that of the white one
  pub is_given : (o i a s : ℕ) (rs : List ℕ) → panel_check o i a s rs ≡ Fine → (said_panel_xyz o i a s rs).number ≡ 0
  pub at_most :
      (o i a s : ℕ) (rs : List ℕ) → panel_check o i a s rs ≡ Fine → (k : ℕ) →
      value (said_panel_xyz o i a s rs) k ≤ get_or (white_xyz o i) k 0
  -- which is accepted, and has Y exactly 100000, on any accepted grid, for every observer and illuminant
  pub white : (o i a s n : ℕ) → setting_check o i a s n ≡ Fine → said_panel_xyz o i a s (replicate n 10000) ≡ given (white_xyz o i) []
  -- a grey panel, of reflectance r throughout, is accepted there too, and has Y exactly 10 r
  pub grey :
      (o i a s n r : ℕ) → setting_check o i a s n ≡ Fine → r ≤ 10000 →
      ((said_panel_xyz o i a s (replicate n r)).number ≡ 0) × (value (said_panel_xyz o i a s (replicate n r)) 1 ≡ 10 * r)
  -- an accepted panel's x, y, its u′, v′ and its chart's point are given unless they are dark, and its figures in one call always
  pub coordinates :
      (o i a s : ℕ) (rs : List ℕ) → panel_check o i a s rs ≡ Fine →
      Coordinates (said_xy (panel_xy_of o i a s rs)) (said_uv (panel_uv_of o i a s rs)) (said_chart (panel_chart_of o i a s rs))
  pub figures : (o i a s : ℕ) (rs : List ℕ) → panel_check o i a s rs ≡ Fine → (said_panel_figures (panel_figures_of o i a s rs)).number ≡ 0
  -- whatever is asked, u′ and v′ and the chart's point are refused exactly as x and y are
  pub refused_alike :
      (o i a s : ℕ) (rs : List ℕ) →
      RefusedAlike (said_xy (panel_xy_of o i a s rs)) (said_uv (panel_uv_of o i a s rs)) (said_chart (panel_chart_of o i a s rs))
  -- reflectances place by place no higher give X, Y, Z no higher
  pub order :
      (o i a s : ℕ) (rs qs : List ℕ) → panel_check o i a s rs ≡ Fine → panel_check o i a s qs ≡ Fine → length rs ≡ length qs →
      Below rs qs → (k : ℕ) → value (said_panel_xyz o i a s rs) k ≤ value (said_panel_xyz o i a s qs) k

-- What is given of a panel that is accepted.
use Rattle.std.proofs.Common.{◌≡◌, refl, List, ℕ, Result, Ok, Err, length}
use Rattle.std.specs.Bool.{⊤}
use Rattle.grid.specs.declared.refusals.Kind.TheVariants.{Reflectance}
use Rattle.grid.specs.declared.refusals.Refusal.{Refusal}
use Rattle.grid.specs.Check.{Fine, ◌>>=◌, grid_check, limit_check, spectrum_check, reflected_check}
use Rattle.tables.specs.declared.Illuminant.{Illuminant}
use Rattle.tables.specs.declared.settings.Observer.{Observer}
use Rattle.tables.specs.Settings.{observer_of, illuminant_of}
use Rattle.spectrum.specs.Spectrum.{Measured, Accepted, spectrum_of}
use Rattle.spectrum.proofs.Given.{spectrum_given, spectrum_accepted}
use Rattle.answers.specs.Worked.{xy_from, uv_from, chart_from}
use Rattle.panel.specs.Panel.{setting_check, seen_of, panel_check, panel_x_sum, panel_y_sum, panel_z_sum, panel_sums, sums_of, panel_xyz, panel_xyz_of, panel_xy_of, panel_uv_of, panel_chart_of}
use Rattle.panel.specs.Figures.{panel_figures, panel_figures_of}

-- an answer that another waits for, where that is fine
waited :
    {A : Type 0} (first : Result A Refusal) (next : A → Result ⊤ Refusal) → (first >>= next) ≡ Fine → (x : A) × (first ≡ Ok x) × (next x ≡ Fine)
waited (Ok x) next e = (x, refl, e)
waited (Err r) next e = absurd (cc)

-- the observer and the illuminant of a setting that is accepted, on its grid
pub record Setting (o i a s n : ℕ) : Type 0 where
  pub observer : Observer
  pub illuminant : Illuminant
  pub sees : observer_of o ≡ Ok observer
  pub lights : illuminant_of i ≡ Ok illuminant
  pub grid : grid_check a s n ≡ Fine

pub setting_of : (o i a s n : ℕ) → setting_check o i a s n ≡ Fine → Setting o i a s n
unfolding setting_check
setting_of o i a s n fine =
    let first = waited (observer_of o) _ fine in
    let second = waited (illuminant_of i) _ first.2 in
    record { observer = first.0; illuminant = second.0; sees = first.1; lights = second.1; grid = second.2 }

-- a panel is checked by its setting, and then by its reflectances
pub panel_split :
    (o i a s : ℕ) (rs : List ℕ) →
    panel_check o i a s rs ≡ (setting_check o i a s (length rs) >>= (λ _. limit_check Reflectance 10000 rs))
unfolding panel_check seen_of setting_check spectrum_of spectrum_check
panel_split o i a s rs = go (observer_of o) (illuminant_of i) (grid_check a s (length rs)) (limit_check Reflectance 10000 rs)
  where
    seen : Result Observer Refusal → Result Illuminant Refusal → Result ⊤ Refusal → Result ⊤ Refusal → Result (Observer × Illuminant × Measured) Refusal
    seen observer illuminant grid limit = do
      x ← observer
      y ← illuminant
      z ← (grid >>= (λ _. limit)) >>= (λ _. Ok (record { start = a; step = s; samples = rs }))
      Ok (x, y, z)

    set : Result Observer Refusal → Result Illuminant Refusal → Result ⊤ Refusal → Result ⊤ Refusal
    set observer illuminant grid = do
      _ ← observer
      _ ← illuminant
      grid

    go :
        (observer : Result Observer Refusal) (illuminant : Result Illuminant Refusal) (grid limit : Result ⊤ Refusal) →
        (seen observer illuminant grid limit >>= (λ _. Fine)) ≡ (set observer illuminant grid >>= (λ _. limit))
    go (Ok x) (Ok y) (Ok u) (Ok v) = refl
    go (Ok x) (Ok y) (Ok u) (Err r) = refl
    go (Ok x) (Ok y) (Err r) limit = refl
    go (Ok x) (Err r) grid limit = refl
    go (Err r) illuminant grid limit = refl

-- and those of a panel that is accepted
pub record SeenPanel (o i a s : ℕ) (rs : List ℕ) : Type 0 where
  pub observer : Observer
  pub illuminant : Illuminant
  pub sees : observer_of o ≡ Ok observer
  pub lights : illuminant_of i ≡ Ok illuminant
  pub fine : reflected_check a s rs ≡ Fine

pub seen_panel : (o i a s : ℕ) (rs : List ℕ) → panel_check o i a s rs ≡ Fine → SeenPanel o i a s rs
unfolding panel_check seen_of spectrum_of
seen_panel o i a s rs fine = go (observer_of o) (illuminant_of i) (reflected_check a s rs) refl refl refl fine
  where
    -- who looks, under what, and a panel
    seen : Result Observer Refusal → Result Illuminant Refusal → Result ⊤ Refusal → Result (Observer × Illuminant × Measured) Refusal
    seen observer illuminant check = do
      x ← observer
      y ← illuminant
      z ← check >>= (λ _. Ok (record { start = a; step = s; samples = rs }))
      Ok (x, y, z)

    go :
        (observer : Result Observer Refusal) (illuminant : Result Illuminant Refusal) (check : Result ⊤ Refusal) →
        observer_of o ≡ observer → illuminant_of i ≡ illuminant → reflected_check a s rs ≡ check →
        (seen observer illuminant check >>= (λ _. Fine)) ≡ Fine → SeenPanel o i a s rs
    go (Ok x) (Ok y) (Ok _) p q r e = record { observer = x; illuminant = y; sees = p; lights = q; fine = r }
    go (Ok x) (Ok y) (Err f) p q r e = absurd (cc)
    go (Ok x) (Err f) check p q r e = absurd (cc)
    go (Err f) illuminant check p q r e = absurd (cc)

module _ (o i a s : ℕ) (rs : List ℕ) (it : SeenPanel o i a s rs) where
  pub accepted_panel : Accepted 10000 (record { start = a; step = s; samples = rs })
  accepted_panel = spectrum_accepted Reflectance 10000 a s rs it.fine

  seen_given : seen_of o i a s rs ≡ Ok (it.observer, it.illuminant, record { start = a; step = s; samples = rs })
  unfolding seen_of
  seen_given = rw (it.sees, it.lights, spectrum_given Reflectance 10000 a s rs it.fine)

  pub panel_fine : panel_check o i a s rs ≡ Fine
  unfolding panel_check
  panel_fine = rw seen_given

  pub xyz_given : panel_xyz_of o i a s rs ≡ Ok (panel_xyz it.observer it.illuminant a s rs)
  unfolding panel_xyz_of
  xyz_given = rw seen_given

  sums_given : sums_of o i a s rs ≡ Ok (panel_sums it.observer it.illuminant a s rs)
  unfolding sums_of
  sums_given = rw seen_given

  pub xy_given :
      panel_xy_of o i a s rs
      ≡ xy_from (panel_x_sum it.observer it.illuminant a s rs) (panel_y_sum it.observer it.illuminant a s rs) (panel_z_sum it.observer it.illuminant a s rs)
  unfolding panel_xy_of
  xy_given = rw sums_given

  pub uv_given :
      panel_uv_of o i a s rs
      ≡ uv_from (panel_x_sum it.observer it.illuminant a s rs) (panel_y_sum it.observer it.illuminant a s rs) (panel_z_sum it.observer it.illuminant a s rs)
  unfolding panel_uv_of
  uv_given = rw sums_given

  pub chart_given :
      panel_chart_of o i a s rs
      ≡ Ok (chart_from (panel_x_sum it.observer it.illuminant a s rs) (panel_y_sum it.observer it.illuminant a s rs) (panel_z_sum it.observer it.illuminant a s rs))
  unfolding panel_chart_of
  chart_given = rw sums_given

  pub figures_given : panel_figures_of o i a s rs ≡ Ok (panel_figures it.observer it.illuminant a s rs)
  unfolding panel_figures_of
  figures_given = rw seen_given

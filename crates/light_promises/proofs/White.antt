-- An accepted panel's X, Y, Z are given; none is above that of a white panel, and they keep to the order of the reflectances.
use Rattle.std.proofs.Common.{◌≡◌, refl, ◌∙◌, sym, Ok, List, [], ◌∷◌, ℕ, ◌*◌, ◌≤◌, length, get_or, replicate}
use Rattle.std.proofs.Math.Nat.{le_refl, mul_assoc}
use Rattle.grid.specs.Check.{Fine}
use Rattle.grid.proofs.Accepted.{accepted}
use Rattle.grid.specs.Said.{value, given}
use Rattle.mixing.specs.Sum.{total}
use Rattle.mixing.specs.Nearest.{nearest}
use Rattle.mixing.specs.Mixture.{Below, Linear}
use Rattle.mixing.proofs.Nearest.{nearest_whole}
use Rattle.mixing.proofs.Mixture.{linear_times}
use Rattle.tables.specs.declared.Curve.{Curve}
use Rattle.tables.specs.declared.Illuminant.{Illuminant}
use Rattle.tables.specs.declared.Illuminant.TheVariants.{A, D65}
use Rattle.tables.specs.declared.settings.Observer.{Observer}
use Rattle.tables.specs.declared.settings.Observer.TheVariants.{Two, Ten}
use Rattle.tables.specs.Settings.{observer_of, illuminant_of, curves_of}
use Rattle.tables.specs.Curves.{lit_by}
use Rattle.tables.specs.Columns.{lit_sum}
use Rattle.tables.proofs.Asked.{observer_number, illuminant_number, observer_is, illuminant_is}
use Rattle.tables.proofs.Lit.{lit_sum_lem}
use Rattle.spectrum.specs.Line.{W}
use Rattle.spectrum.proofs.Measured.{W_linear}
use Rattle.answers.specs.Said.{said_xy, said_uv, said_chart}
use Rattle.panel.specs.Panel.{setting_check, panel_check, white_sum, panel_xyz_of, panel_xy_of, panel_uv_of, panel_chart_of}
use Rattle.panel.specs.Figures.{panel_figures_of, said_panel_figures}
use Rattle.panel.proofs.Given.{Setting, setting_of, SeenPanel, seen_panel, accepted_panel, xyz_given, xy_given, uv_given, chart_given, figures_given}
use Rattle.panel.proofs.Sized.{white_lit, divisor_some}
use Rattle.light_promises.specs.Range.{Coordinates}
use Rattle.light_promises.specs.Panels.{said_panel_xyz, white_xyz}
use Rattle.light_promises.proofs.Range.{coordinates, three}
use Rattle.light_promises.proofs.Sums.{Sums, ordered}
use Rattle.light_promises.proofs.Constant.{constant_panel, nearest_constant, no_more}

pub is_given : (o i a s : ℕ) (rs : List ℕ) → panel_check o i a s rs ≡ Fine → (said_panel_xyz o i a s rs).number ≡ 0
is_given o i a s rs fine = rw (xyz_given o i a s rs (seen_panel o i a s rs fine))

pub coordinates_given :
    (o i a s : ℕ) (rs : List ℕ) → panel_check o i a s rs ≡ Fine →
    Coordinates (said_xy (panel_xy_of o i a s rs)) (said_uv (panel_uv_of o i a s rs)) (said_chart (panel_chart_of o i a s rs))
coordinates_given o i a s rs fine =
    let it = seen_panel o i a s rs fine in
    rw (xy_given o i a s rs it, uv_given o i a s rs it, chart_given o i a s rs it) (coordinates _ _ _)

pub all_figures_given :
    (o i a s : ℕ) (rs : List ℕ) → panel_check o i a s rs ≡ Fine → (said_panel_figures (panel_figures_of o i a s rs)).number ≡ 0
all_figures_given o i a s rs fine = rw (figures_given o i a s rs (seen_panel o i a s rs fine))

module _ (observer : Observer) (illuminant : Illuminant) where
  -- of a curve's sum under the illuminant, at the limit everywhere
  abbrev greatest : Curve → ℕ
  greatest c = nearest (10 * (10000 * lit_sum illuminant c)) (white_sum observer illuminant)

  abbrev all_greatest : List ℕ
  all_greatest = greatest (curves_of observer).x ∷ greatest (curves_of observer).y ∷ greatest (curves_of observer).z ∷ []

  white_is : all_greatest ≡ white_xyz (observer_number observer) (illuminant_number illuminant)
  unfolding white_sum nearest
  white_is = rw (lit_sum_lem illuminant (curves_of observer).y) (computed observer illuminant)
    where
      computed :
          (o : Observer) (i : Illuminant) →
          nearest (10 * (10000 * lit_sum i (curves_of o).x)) (lit_sum i (curves_of o).y)
          ∷ nearest (10 * (10000 * lit_sum i (curves_of o).y)) (lit_sum i (curves_of o).y)
          ∷ nearest (10 * (10000 * lit_sum i (curves_of o).z)) (lit_sum i (curves_of o).y)
          ∷ []
          ≡ white_xyz (observer_number o) (illuminant_number i)
      computed Two A = refl
      computed Two D65 = refl
      computed Ten A = refl
      computed Ten D65 = refl

  -- by the numbers that are asked for
  white_xyz_lem : (o i : ℕ) → observer_of o ≡ Ok observer → illuminant_of i ≡ Ok illuminant → all_greatest ≡ white_xyz o i
  white_xyz_lem o i p q = white_is ∙ rw (observer_is o observer p, illuminant_is i illuminant q)

-- X, Y, Z of a panel that is seen
module _ (o i a s : ℕ) (rs : List ℕ) (it : SeenPanel o i a s rs) where
  xyz_most :
      (c : Curve) →
      nearest (10 * W (lit_by it.illuminant c) a s rs) (s * white_sum it.observer it.illuminant) ≤ greatest it.observer it.illuminant c
  xyz_most c =
      let ok = accepted_panel o i a s rs it in
      rw (lit_sum_lem it.illuminant c) at
      (no_more (lit_by it.illuminant c) 10 (white_sum it.observer it.illuminant) s 10000 a rs ok.on.step_low ok.within)

  none_above : (k : ℕ) → value (said_panel_xyz o i a s rs) k ≤ get_or (white_xyz o i) k 0
  none_above =
      let c = curves_of it.observer in
      rw (xyz_given o i a s rs it, sym (white_xyz_lem it.observer it.illuminant o i it.sees it.lights))
      (three (xyz_most c.x) (xyz_most c.y) (xyz_most c.z))

pub at_most :
    (o i a s : ℕ) (rs : List ℕ) → panel_check o i a s rs ≡ Fine → (k : ℕ) → value (said_panel_xyz o i a s rs) k ≤ get_or (white_xyz o i) k 0
at_most o i a s rs fine = none_above o i a s rs (seen_panel o i a s rs fine)

-- of a panel of reflectance r throughout
module _ (o i a s n : ℕ) (it : Setting o i a s n) where
  xyz_constant :
      (r : ℕ) (c : Curve) →
      nearest (10 * W (lit_by it.illuminant c) a s (replicate n r)) (s * white_sum it.observer it.illuminant)
      ≡ nearest (10 * (r * total 471 (lit_by it.illuminant c))) (white_sum it.observer it.illuminant)
  xyz_constant r c = nearest_constant (lit_by it.illuminant c) 10 (white_sum it.observer it.illuminant) s r a n (accepted a s n it.grid)

  white_panel : said_panel_xyz o i a s (replicate n 10000) ≡ given (white_xyz o i) []
  white_panel =
      let c = curves_of it.observer in
      let is :
      (c : Curve) →
      nearest (10 * W (lit_by it.illuminant c) a s (replicate n 10000)) (s * white_sum it.observer it.illuminant)
      ≡ greatest it.observer it.illuminant c =
      (λ c. rw (lit_sum_lem it.illuminant c) at (xyz_constant 10000 c)) in
      rw (
        xyz_given o i a s (replicate n 10000) (constant_panel o i a s n 10000 (le_refl 10000) it),
        is c.x,
        is c.y,
        is c.z,
        white_xyz_lem it.observer it.illuminant o i it.sees it.lights,
      )

  grey_panel :
      (r : ℕ) → r ≤ 10000 →
      ((said_panel_xyz o i a s (replicate n r)).number ≡ 0) × (value (said_panel_xyz o i a s (replicate n r)) 1 ≡ 10 * r)
  unfolding white_sum
  grey_panel r h =
      let white = white_sum it.observer it.illuminant in
      let is = xyz_given o i a s (replicate n r) (constant_panel o i a s n r h it) in
      let y : nearest (10 * (r * white)) white ≡ 10 * r = rw (sym (mul_assoc 10 r white)) (nearest_whole (10 * r) white (white_lit it.observer it.illuminant)) in
      (rw is, rw is (xyz_constant r (curves_of it.observer).y ∙ y))

pub white : (o i a s n : ℕ) → setting_check o i a s n ≡ Fine → said_panel_xyz o i a s (replicate n 10000) ≡ given (white_xyz o i) []
white o i a s n fine = white_panel o i a s n (setting_of o i a s n fine)

pub grey :
    (o i a s n r : ℕ) → setting_check o i a s n ≡ Fine → r ≤ 10000 →
    ((said_panel_xyz o i a s (replicate n r)).number ≡ 0) × (value (said_panel_xyz o i a s (replicate n r)) 1 ≡ 10 * r)
grey o i a s n r fine h = grey_panel o i a s n (setting_of o i a s n fine) r h

-- what X, Y, Z are of the panels that one observer sees under one illuminant
panel_sums :
    (o i a s : ℕ) (observer : Observer) (illuminant : Illuminant) → observer_of o ≡ Ok observer → illuminant_of i ≡ Ok illuminant →
    Sums (panel_check o i a s) (said_panel_xyz o i a s)
panel_sums o i a s observer illuminant sees lights =
    let by : Curve → List ℕ → ℕ = (λ c rs. 10 * W (lit_by illuminant c) a s rs) in
    let linear : (n : ℕ) (c : Curve) → Linear n (by c) =
    (λ n c. linear_times n 10 (λ rs. W (lit_by illuminant c) a s rs) (W_linear n (lit_by illuminant c) a s)) in
    let c = curves_of observer in
    record {
      sums = by c.x ∷ by c.y ∷ by c.z ∷ [];
      divisor = s * white_sum observer illuminant;
      linear = λ n. (linear n c.x, (linear n c.y, (linear n c.z, tt)));
      some = λ rs fine. divisor_some observer illuminant _ (accepted_panel o i a s rs (seen rs fine));
      is = λ rs fine. rw (xyz_given o i a s rs (seen rs fine));
    }
  where
    seen : (rs : List ℕ) → panel_check o i a s rs ≡ Fine → SeenPanel o i a s rs
    seen rs fine = record { observer = observer; illuminant = illuminant; sees = sees; lights = lights; fine = (seen_panel o i a s rs fine).fine }

pub order :
    (o i a s : ℕ) (rs qs : List ℕ) → panel_check o i a s rs ≡ Fine → panel_check o i a s qs ≡ Fine → length rs ≡ length qs →
    Below rs qs → (k : ℕ) → value (said_panel_xyz o i a s rs) k ≤ value (said_panel_xyz o i a s qs) k
order o i a s rs qs p q same below k =
    let it = seen_panel o i a s rs p in
    ordered (panel_sums o i a s it.observer it.illuminant it.sees it.lights) k rs qs p q same below

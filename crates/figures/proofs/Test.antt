-- One computed test over the whole table, and the law that turns it into the claim.
use mathlib.Core.Path.{◌≡◌, refl, ap₂}
use mathlib.Core.Bool.{Bool, true, false, ◌&&◌}
use mathlib.Core.List.{List, [], ◌∷◌}
use Prim.Native.Nat.{ℕ}
use lib.Dec.{T, eqb, eqb→eq}
use lib.Ieee.{Float}
use Rattle.grid.specs.Said.{Said}
use Rattle.grid.specs.Check.{grid_check, limit_check, spectrum_check}
use Rattle.mixing.specs.Nearest.{nearest}
use Rattle.mixing.specs.Sum.{total, weighted}
use Rattle.mixing.specs.Mixture.{mix, mixture}
use Rattle.tables.specs.Tables.{table, powers}
use Rattle.spectrum.specs.Line.{line_at, end_rule, W, T as T'}
use Rattle.spectrum.specs.Spectrum.{spectrum_of}
use Rattle.answers.specs.Worked.{xy_from, uv_from}
use Rattle.panel.specs.Figures.{panel_figures_of}
use Rattle.panel.specs.Panel.{white_sum, panel_xyz_of, panel_xy_of, panel_uv_of}
use Rattle.panel.specs.Panel.{seen_of as panel_seen_of, sums_of as panel_sums_of}
use Rattle.efficacy.specs.Efficacy.{at_reference}
use Rattle.readings.specs.Readings.{illuminance_of, mesopic_of, seen_of, sums_of, xyz_of, xy_of, uv_of}
use Rattle.figures.specs.Asked.{answer_of}
use Rattle.figures.specs.Rows.{Row, rows}
use Rattle.figures.specs.Promises.{Holds}

both_left : (a b : Bool) → T (a && b) → T a
both_left true b t = tt
both_left false b t = t

both_right : (a b : Bool) → T (a && b) → T b
both_right true b t = t
both_right false b t = absurd t

same_numbers : List ℕ → List ℕ → Bool
same_numbers [] [] = true
same_numbers [] (y ∷ ys) = false
same_numbers (x ∷ xs) [] = false
same_numbers (x ∷ xs) (y ∷ ys) = eqb x y && same_numbers xs ys

same_numbers_lem : (xs ys : List ℕ) → T (same_numbers xs ys) → xs ≡ ys
unfolding same_numbers
same_numbers_lem [] [] t = refl
same_numbers_lem [] (y ∷ ys) t = absurd t
same_numbers_lem (x ∷ xs) [] t = absurd t
same_numbers_lem (x ∷ xs) (y ∷ ys) t =
    ap₂ (λ (z : ℕ) (zs : List ℕ). z ∷ zs) (eqb→eq x y (both_left (eqb x y) (same_numbers xs ys) t))
    (same_numbers_lem xs ys (both_right (eqb x y) (same_numbers xs ys) t))

-- no row has floats
has_no_floats : List Float → Bool
has_no_floats [] = true
has_no_floats (x ∷ xs) = false

no_floats : (xs ys : List Float) → T (has_no_floats xs) → T (has_no_floats ys) → xs ≡ ys
unfolding has_no_floats
no_floats [] [] s t = refl
no_floats [] (y ∷ ys) s t = absurd t
no_floats (x ∷ xs) ys s t = absurd s

is_same : Said → Said → Bool
is_same a b =
    eqb a.number b.number && (eqb a.place b.place && (same_numbers a.values b.values && (has_no_floats a.floats && has_no_floats b.floats)))

same_said : (a b : Said) → T (is_same a b) → a ≡ b
unfolding is_same
same_said a b t =
    let n = eqb a.number b.number in
    let p = eqb a.place b.place in
    let v = same_numbers a.values b.values in
    let f = has_no_floats a.floats in
    let g = has_no_floats b.floats in
    let behind_n = both_right n (p && (v && (f && g))) t in
    let behind_p = both_right p (v && (f && g)) behind_n in
    let behind_v = both_right v (f && g) behind_p in
    let numbers = eqb→eq a.number b.number (both_left n (p && (v && (f && g))) t) in
    let places = eqb→eq a.place b.place (both_left p (v && (f && g)) behind_n) in
    let values = same_numbers_lem a.values b.values (both_left v (f && g) behind_p) in
    let floats = no_floats a.floats b.floats (both_left f g behind_v) (both_right f g behind_v) in
    λ i. record { number = numbers i; place = places i; values = values i; floats = floats i }

pub test : List Row → Bool
test [] = true
test (r ∷ rs) = is_same (answer_of r.asked) r.answer && test rs

-- where the test passes, each row is given as it says
pub holds : (rs : List Row) → T (test rs) → Holds rs
unfolding test
holds [] t = tt
holds (r ∷ rs) t = (
  same_said (answer_of r.asked) r.answer (both_left (is_same (answer_of r.asked) r.answer) (test rs) t),
  holds rs (both_right (is_same (answer_of r.asked) r.answer) (test rs) t),
)

-- the test, computed over the whole table
pub passes : T (test rows)
unfolding test is_same same_numbers has_no_floats rows answer_of panel_xyz_of panel_xy_of panel_uv_of panel_figures_of panel_seen_of panel_sums_of white_sum illuminance_of mesopic_of seen_of sums_of xyz_of xy_of uv_of xy_from uv_from spectrum_of spectrum_check grid_check limit_check W weighted total T' line_at end_rule at_reference table powers nearest mix mixture
passes = tt

-- The open functions between crates are determined too: two results that a contract allows for the same arguments are
-- equal. `Determined` shows it of the functions that face callers.
use mathlib.Core.Path.{◌≡◌, ◌∙◌, refl, sym}
use mathlib.Core.List.{List}
use Prim.Native.Nat.{ℕ}
use native.Mathlib.Omega.{arith}
use lib.Seq.{ext_get_or}
use denote.RattleType.{RattleType}
use denote.Param.Laws.{Laws, IsCopy}
use mir.Syntax.{Dict}
use Rattle.std.specs.declared.clone.Clone.{Ghosts as Cloned}
use Rattle.grid.specs.declared.rows.Sampled.{Ghosts as Numbers}
use Rattle.quailribbon.proofs.Determined.{OneResult, OneExit, same}
use Rattle.exact.proofs.nearest.Reads as nearest
use Rattle.grid.proofs.refusals.RefusalFromKind.from.Reads as from_kind
use Rattle.grid.proofs.refusals.Refusal.number.Reads as number
use Rattle.grid.proofs.refusals.require.Reads as require
use Rattle.grid.proofs.rows.U32Sampled.value.Reads as sample_value
use Rattle.grid.proofs.rows.U16Sampled.value.Reads as reflectance_value
use Rattle.grid.proofs.rows.check_limit.Reads as check_limit
use Rattle.grid.proofs.rows.refuse_above.Reads as refuse_above
use Rattle.grid.proofs.check_grid.Reads as check_grid
use Rattle.grid.proofs.check_spectrum.Reads as check_spectrum
use Rattle.tables.proofs.Curve.table.Reads as table
use Rattle.tables.proofs.Illuminant.powers.Reads as powers
use Rattle.tables.proofs.settings.Observer.curves.Reads as curves
use Rattle.tables.proofs.settings.ObserverTryFromU32.try_from.Reads as observer_from
use Rattle.tables.proofs.settings.IlluminantTryFromU32.try_from.Reads as illuminant_from
use Rattle.tables.specs.declared.units.Stretch.{Stretch}
use Rattle.curves.proofs.weigh.weigh.Reads as weigh
use Rattle.curves.proofs.lit.light.Reads as light
use Rattle.curves.proofs.lit.weigh_lit.Reads as weigh_lit
use Rattle.efficacy.proofs.divisor.Reads as divisor
use Rattle.spectrum.proofs.line.begin_at_360.Reads as begin_at_360
use Rattle.spectrum.proofs.line.lay.Reads as lay_part
use Rattle.spectrum.proofs.Spectrum.new.Reads as new_spectrum
use Rattle.spectrum.proofs.Spectrum.step.Reads as step
use Rattle.spectrum.proofs.Spectrum.lay.Reads as lay
use Rattle.answers.proofs.sums.Sums.new.Reads as new_sums
use Rattle.answers.proofs.sums.Sums.xyz.Reads as xyz
use Rattle.answers.proofs.sums.Sums.xy.Reads as xy
use Rattle.answers.proofs.sums.Sums.uv.Reads as uv
use Rattle.answers.proofs.sums.Sums.chart.Reads as chart

-- of any two results that a contract allows for the same arguments, both show the same
abbrev OneSeen : {K A R E S : Type 0} → (R → S) → (K → A → R → E → Type 0) → Type 0
OneSeen {K} {A} {R} {E} seen Allows =
    (k : K) (a : A) (r q : R) (e f : E) → Allows k a r e → Allows k a q f → seen r ≡ seen q

-- of every type of numbers that a row may hold
abbrev OfNumbers : ((T : RattleType) → Laws T → IsCopy T → Numbers T.Denot → Dict → Cloned T.Denot → Dict → Type 0) → Type 2
OfNumbers Holds =
    (T : RattleType) (l : Laws T) (c : IsCopy T) (n : Numbers T.Denot) (d : Dict) (m : Cloned T.Denot) (b : Dict)
    → Holds T l c n d m b

-- exact

one_nearest : OneResult nearest.Post
one_nearest k a r q e f p s = same p s

-- grid

one_from_kind : OneResult from_kind.Post
one_from_kind k a r q e f p s = same p s

one_number : OneResult number.Post
one_number k a r q e f p s = same p s

one_require : OneResult require.Post
one_require k a r q e f p s = same p s

one_sample_value : OneResult sample_value.Post
one_sample_value k a r q e f p s = same p s

one_reflectance_value : OneResult reflectance_value.Post
one_reflectance_value k a r q e f p s = same p s

one_check_limit : OfNumbers (λ T l c n d m b. OneResult (check_limit.Post T l c n d m b))
one_check_limit T l c n d m b k a r q e f p s = same p s

one_refuse_above : OfNumbers (λ T l c n d m b. OneResult (refuse_above.Post T l c n d m b))
one_refuse_above T l c n d m b k a r q e f p s = same p s

one_check_grid : OneResult check_grid.Post
one_check_grid k a r q e f p s = same p s

one_check_spectrum : OfNumbers (λ T l c n d m b. OneResult (check_spectrum.Post T l c n d m b))
one_check_spectrum T l c n d m b k a r q e f p s = same p s

-- tables

one_table : OneSeen {S = List Stretch × List ℕ} (λ t. (t.stretches.now, t.counts.now)) table.Post
one_table k a r q e f p s = λ i. (same p.0 s.0 i, same p.1 s.1 i)

one_powers : OneSeen (λ t. t.now) powers.Post
one_powers k a r q e f p s = same p s

one_curves : OneResult curves.Post
one_curves k a r q e f p s = same p s

one_observer_from : OneResult observer_from.Post
one_observer_from k a r q e f p s = same p s

one_illuminant_from : OneResult illuminant_from.Post
one_illuminant_from k a r q e f p s = same p s

-- curves

one_weigh : OneResult weigh.Post
one_weigh k a r q e f p s = same p.0 s.0

one_light : OneResult light.Post
one_light k a r q e f p s = refl

-- two numbers are fixed by what they make together, where the low one is below 2^21
left_light_high : OneExit (λ e. e.1.0.now) light.Post
left_light_high k a r q e f p s =
    ext_get_or 0 e.1.0.now f.1.0.now (p.1.1.1.0 ∙ sym s.1.1.1.0)
    (λ j h. omega (arith, p.1.1.1.0, p.0 j (omega (arith, p.1.1.1.0)), s.0 j (omega (arith, p.1.1.1.0)), p.1.1.0 j, s.1.1.0 j))

left_light_low : OneExit (λ e. e.1.1.0.now) light.Post
left_light_low k a r q e f p s =
    ext_get_or 0 e.1.1.0.now f.1.1.0.now (p.1.1.1.1 ∙ sym s.1.1.1.1)
    (λ j h. omega (arith, p.1.1.1.1, p.0 j (omega (arith, p.1.1.1.1)), s.0 j (omega (arith, p.1.1.1.1)), p.1.1.0 j, s.1.1.0 j))

one_weigh_lit : OneResult weigh_lit.Post
one_weigh_lit k a r q e f p s = same p.0 s.0

-- efficacy

one_divisor : OneResult divisor.Post
one_divisor k a r q e f p s = same p s

-- spectrum

one_begin_at_360 : OneResult begin_at_360.Post
one_begin_at_360 k a r q e f p s =
    let place = same p.place s.place in
    let wavelength = same p.wavelength s.wavelength in
    λ i. record { place = place i; wavelength = wavelength i }

one_lay_part : OfNumbers (λ T l c n d m b. OneResult (lay_part.Post T l c n d m b))
one_lay_part T l c n d m b k a r q e f p s = refl

left_lay_part : OfNumbers (λ T l c n d m b. OneExit (λ e. e.1.1.1.0.now) (lay_part.Post T l c n d m b))
left_lay_part T l c n d m b k a r q e f p s = same p s

one_new_spectrum : OfNumbers (λ T l c n d m b. OneResult (new_spectrum.Post T l c n d m b))
one_new_spectrum T l c n d m b k a r q e f p s = same p s

one_step : OfNumbers (λ T l c n d m b. OneResult (step.Post T l c n d m b))
one_step T l c n d m b k a r q e f p s = same p.0 s.0

one_lay : OfNumbers (λ T l c n d m b. OneResult (lay.Post T l c n d m b))
one_lay T l c n d m b k a r q e f p s = refl

left_lay : OfNumbers (λ T l c n d m b. OneExit (λ e. e.1.0.now) (lay.Post T l c n d m b))
left_lay T l c n d m b k a r q e f p s = same p.0 s.0

-- answers

one_new_sums : OneResult new_sums.Post
one_new_sums k a r q e f p s = same p s

one_xyz : OneResult xyz.Post
one_xyz k a r q e f p s = same p s

one_xy : OneResult xy.Post
one_xy k a r q e f p s = same p s

one_uv : OneResult uv.Post
one_uv k a r q e f p s = same p s

one_chart : OneResult chart.Post
one_chart k a r q e f p s = same p s

-- Both numbers of each slip are computed, and they are not the same.
use mathlib.Core.Path.{◌≡◌, refl, sym, ◌∙◌}
use Prim.Native.Nat.{ℕ}
use native.Mathlib.Omega.{arith}
use Rattle.grid.specs.Check.{grid_check, limit_check, spectrum_check}
use Rattle.mixing.specs.Nearest.{nearest}
use Rattle.mixing.specs.Sum.{total, weighted}
use Rattle.tables.specs.Tables.{table}
use Rattle.spectrum.specs.Spectrum.{spectrum_of}
use Rattle.spectrum.specs.Line.{T, line_at, end_rule, W}
use Rattle.answers.specs.Worked.{xy_from, uv_from}
use Rattle.efficacy.specs.Efficacy.{at_reference}
use Rattle.readings.specs.Readings.{illuminance_of, seen_of, sums_of, xyz_of, xy_of, uv_of}
use Rattle.grid.specs.Said.{value}
use Rattle.figures.specs.Asked.{Asked, answer_of}
use Rattle.slips.specs.Slips.{filled_down}
use Rattle.slips.specs.Promises.{Apart}
use Rattle.slips.proofs.promises.promise_slips.Goals as goal

-- the two numbers, each computed once
apart : {version slip ours i : ℕ} {asked : Asked} → version ≡ slip → value (answer_of asked) i ≡ ours → (slip ≡ ours → ⊥) → Apart version slip asked i ours
apart p q unlike = record { gives = p; is = q; not_ours = λ e. unlike (sym p ∙ e ∙ q) }

pub returns : goal.returns
unfolding answer_of filled_down illuminance_of seen_of sums_of xyz_of xy_of uv_of xy_from uv_from spectrum_of spectrum_check grid_check limit_check W weighted total T line_at end_rule at_reference table nearest
returns c = record {
  x_from_rounded_apart = apart refl refl (λ e. omega arith);
  u_from_rounded_apart = apart refl refl (λ e. omega arith);
  each_rounded_apart = apart refl refl (λ e. omega arith);
  at_samples_apart = apart refl refl (λ e. omega arith);
  divided_early_apart = apart refl refl (λ e. omega arith);
  filled_down_apart = apart refl refl (λ e. omega arith);
}

-- Where no light meets a curve's weights, its sum is 0: the illuminances are 0, the coordinates dark.
use Rattle.std.proofs.Common.{◌≡◌, refl, true, Ok, Err, List, ◌++◌, ℕ, ◌+◌, ◌*◌, ◌-◌, ◌≤◌, ◌<◌, zero-le, length, replicate, arith}
use Rattle.std.proofs.Math.Nat.{lt_of_mul-lt-mul_left, mul-zero}
use borrow.Author.Tests.{le-leb}
use lib.Seq.{drop-append_seam}
use Rattle.grid.specs.declared.refusals.Kind.TheVariants.{Dark}
use Rattle.grid.specs.Check.{Fine, refusal, grid_check, light_check}
use Rattle.grid.proofs.Light.{on_grid}
use Rattle.mixing.specs.Sum.{weighted}
use Rattle.mixing.proofs.Mixture.{linear_zeros}
use Rattle.mixing.proofs.Sum.{total_none}
use Rattle.mixing.proofs.Nearest.{nearest_none}
use Rattle.tables.specs.declared.Curve.{Curve}
use Rattle.tables.specs.declared.Curve.TheVariants.{YBar, VPrime}
use Rattle.tables.specs.declared.settings.Observer.{Observer}
use Rattle.tables.specs.declared.settings.Observer.TheVariants.{Two}
use Rattle.tables.specs.Settings.{observer_of, curves_of}
use Rattle.tables.specs.Curves.{weight_of}
use Rattle.spectrum.specs.Line.{T, W}
use Rattle.spectrum.proofs.Measured.{T_from, T_linear}
use Rattle.answers.specs.declared.OnChart.{OnChart}
use Rattle.answers.specs.Worked.{xy_from, uv_from, on_chart}
use Rattle.efficacy.specs.Efficacy.{efficacy_of}
use Rattle.readings.specs.Readings.{weighed, illuminance_of, mesopic_of, xyz_of, xy_of, uv_of, chart_of, figures_of}
use Rattle.readings.proofs.Given.{illuminance_given, mesopic_given, xyz_given, xy_given, uv_given, chart_given, figures_given}
use Rattle.light_promises.specs.Lights.{Unlit, Colourless}
use Rattle.light_promises.proofs.Constant.{light_accepted}

pub zeros_accepted : (a s n : ℕ) → grid_check a s n ≡ Fine → light_check a s (replicate n 0) ≡ Fine
zeros_accepted a s n = light_accepted a s n 0 zero-le

pub zeros : (c : Curve) (a s n : ℕ) → Unlit c a s (replicate n 0)
zeros c a s n k = rw (linear_zeros n (λ xs. T a s xs (360 + k)) (T_linear n a s (360 + k))) (mul-zero (weight_of c k))

pub unfelt :
    (c : Curve) (a s n : ℕ) (xs : List ℕ) → light_check a s (xs ++ replicate n 0) ≡ Fine → a + s * length xs ≤ 360 →
    Unlit c a s (xs ++ replicate n 0)
unfelt c a s n xs fine low k =
    let all = xs ++ replicate n 0 in
    let on = on_grid a s all fine in
    let before : length xs < length all - 1 = lt_of_mul-lt-mul_left s (omega arith) in
    rw (T_from a s all (length xs) (360 + k) on.step_low (omega arith) (omega arith), drop-append_seam xs (replicate n 0))
    (zeros c (a + s * length xs) s n k)

module _ (a s : ℕ) (xs : List ℕ) (fine : light_check a s xs ≡ Fine) where
  no_sum : (c : Curve) → Unlit c a s xs → weighed c a s xs ≡ 0
  unfolding W weighted
  no_sum c unlit = total_none 471 (λ k. weight_of c k * T a s xs (360 + k)) unlit

  pub no_illuminance : (c : Curve) → Unlit c a s xs → illuminance_of c a s xs ≡ Ok 0
  no_illuminance c unlit = rw (illuminance_given a s xs fine c, no_sum c unlit, mul-zero (efficacy_of c).over, nearest_none)

  pub no_mesopic : (k : ℕ) → k ≤ 1000 → Unlit YBar a s xs → Unlit VPrime a s xs → mesopic_of k a s xs ≡ Ok 0
  no_mesopic k h day night =
      rw (mesopic_given a s xs fine k (le-leb k 1000 h), no_sum YBar day, no_sum VPrime night, mul-zero k, mul-zero (1000 - k), nearest_none)

  module _ (observer : Observer) (unlit : Colourless observer a s xs) where
    no_sums :
        (weighed (curves_of observer).x a s xs ≡ 0)
        × (weighed (curves_of observer).y a s xs ≡ 0)
        × (weighed (curves_of observer).z a s xs ≡ 0)
    no_sums = (no_sum (curves_of observer).x unlit.0, no_sum (curves_of observer).y unlit.1, no_sum (curves_of observer).z unlit.2)

    module _ (o : ℕ) (sees : observer_of o ≡ Ok observer) where
      pub no_xyz : xyz_of o a s xs ≡ Ok (record { x = 0; y = 0; z = 0 })
      no_xyz =
          rw (xyz_given a s xs fine o observer sees, no_sums.0, no_sums.1, no_sums.2) (simp (mul-zero, nearest_none))

      pub no_xy : xy_of o a s xs ≡ Err (refusal Dark 0)
      unfolding xy_from
      no_xy = rw (xy_given a s xs fine o observer sees, no_sums.0, no_sums.1, no_sums.2)

      pub no_uv : uv_of o a s xs ≡ Err (refusal Dark 0)
      unfolding uv_from
      no_uv = rw (uv_given a s xs fine o observer sees, no_sums.0, no_sums.1, no_sums.2)

      pub no_point : chart_of o a s xs ≡ Ok OnChart.Dark
      unfolding xy_from on_chart
      no_point = rw (chart_given a s xs fine o observer sees, no_sums.0, no_sums.1, no_sums.2)

  -- what the report shows of no light
  pub no_figures :
      Colourless Two a s xs → Unlit VPrime a s xs →
      figures_of a s xs
      ≡ Ok (record { photopic = 0; scotopic = 0; xyz = record { x = 0; y = 0; z = 0 }; xy = Err (refusal Dark 0) })
  unfolding xy_from
  no_figures unlit night =
      let none = no_sums Two unlit in
      rw (figures_given a s xs fine, none.0, none.1, none.2, no_sum VPrime night) (simp (mul-zero, nearest_none))

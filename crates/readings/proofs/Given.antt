-- What is given of a light that is accepted.
use Rattle.std.proofs.Common.{◌≡◌, true, List, ℕ, Ok, nat_le}
use Rattle.grid.specs.declared.refusals.Kind.TheVariants.{Sample}
use Rattle.grid.specs.Check.{Fine, light_check}
use Rattle.tables.specs.declared.Curve.{Curve}
use Rattle.tables.specs.declared.settings.Observer.{Observer}
use Rattle.tables.specs.Settings.{observer_of}
use Rattle.spectrum.specs.Spectrum.{Accepted, light_of}
use Rattle.spectrum.proofs.Given.{spectrum_given, spectrum_accepted}
use Rattle.answers.specs.Worked.{xy_from, uv_from, chart_from}
use Rattle.readings.specs.Readings.{millilux, illuminance_of, mesopic_millilux, mesopic_of, seen_of, x_sum, y_sum, z_sum, light_sums, sums_of, light_xyz, xyz_of, xy_of, uv_of, chart_of, light_figures, figures_of}

module _ (a s : ℕ) (xs : List ℕ) (fine : light_check a s xs ≡ Fine) where
  given : light_of a s xs ≡ Ok (record { start = a; step = s; samples = xs })
  given = spectrum_given Sample 1000000 a s xs fine

  pub accepted_light : Accepted 1000000 (record { start = a; step = s; samples = xs })
  accepted_light = spectrum_accepted Sample 1000000 a s xs fine

  pub illuminance_given : (c : Curve) → illuminance_of c a s xs ≡ Ok (millilux c a s xs)
  unfolding illuminance_of
  illuminance_given c = rw given

  pub mesopic_given : (k : ℕ) → nat_le k 1000 ≡ true → mesopic_of k a s xs ≡ Ok (mesopic_millilux k a s xs)
  unfolding mesopic_of
  mesopic_given k few = rw (few, given)

  pub figures_given : figures_of a s xs ≡ Ok (light_figures a s xs)
  unfolding figures_of
  figures_given = rw given

  module _ (o : ℕ) (observer : Observer) (sees : observer_of o ≡ Ok observer) where
    seen_given : seen_of o a s xs ≡ Ok (observer, record { start = a; step = s; samples = xs })
    unfolding seen_of
    seen_given = rw (sees, given)

    pub xyz_given : xyz_of o a s xs ≡ Ok (light_xyz observer a s xs)
    unfolding xyz_of
    xyz_given = rw seen_given

    sums_given : sums_of o a s xs ≡ Ok (light_sums observer a s xs)
    unfolding sums_of
    sums_given = rw seen_given

    pub xy_given : xy_of o a s xs ≡ xy_from (x_sum observer a s xs) (y_sum observer a s xs) (z_sum observer a s xs)
    unfolding xy_of
    xy_given = rw sums_given

    pub uv_given : uv_of o a s xs ≡ uv_from (x_sum observer a s xs) (y_sum observer a s xs) (z_sum observer a s xs)
    unfolding uv_of
    uv_given = rw sums_given

    pub chart_given : chart_of o a s xs ≡ Ok (chart_from (x_sum observer a s xs) (y_sum observer a s xs) (z_sum observer a s xs))
    unfolding chart_of
    chart_given = rw sums_given

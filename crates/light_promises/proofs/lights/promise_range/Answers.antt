-- The sums of a light at the limit are the tables' sums, from which each number is computed.
use mathlib.Core.Path.{refl}
use Rattle.mixing.specs.Nearest.{nearest}
use Rattle.tables.specs.declared.Curve.TheVariants.{YBar, YBar10, VPrime, VF, VF10}
use Rattle.tables.specs.declared.settings.Observer.TheVariants.{Two, Ten}
use Rattle.spectrum.proofs.Light.{W_bound}
use Rattle.light_promises.proofs.Range.{illuminance_range, mesopic_range, mesopic_any, mesopic_0, xyz_range, xy_range, figures_range}
use Rattle.light_promises.proofs.lights.promise_range.Goals as goal

pub returns : goal.returns
unfolding nearest
returns c =
    record {
      law = W_bound;
      photopic = illuminance_range YBar;
      scotopic = illuminance_range VPrime;
      photopic_10 = illuminance_range YBar10;
      research_32 = illuminance_range VF;
      research_40 = illuminance_range VF10;
      mesopic = mesopic_range;
      mesopic_any = mesopic_any;
      mesopic_0 = mesopic_0;
      xyz = xyz_range 2 Two refl;
      xyz_10 = xyz_range 10 Ten refl;
      coordinates = xy_range;
      figures = figures_range;
    }

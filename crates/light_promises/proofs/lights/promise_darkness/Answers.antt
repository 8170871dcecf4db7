-- With no light where a curve has any weight, its sum is 0.
use mathlib.Core.Path.{ap}
use Rattle.tables.specs.declared.Curve.TheVariants.{YBar, VPrime, YBar10, VF, VF10}
use Rattle.answers.specs.Said.{said_reading, said_xyz, said_xy, said_uv, said_chart}
use Rattle.readings.specs.Figures.{said_figures}
use Rattle.light_promises.proofs.Unlit.{zeros_accepted, zeros, unfelt, no_illuminance, no_mesopic, no_xyz, no_xy, no_uv, no_point, no_figures}
use Rattle.light_promises.proofs.lights.promise_darkness.Goals as goal

pub returns : goal.returns
returns c =
    record {
      accepted = zeros_accepted;
      zeros = zeros;
      unfelt = unfelt;
      photopic = λ a s xs f u. ap said_reading (no_illuminance a s xs f YBar u);
      scotopic = λ a s xs f u. ap said_reading (no_illuminance a s xs f VPrime u);
      photopic_10 = λ a s xs f u. ap said_reading (no_illuminance a s xs f YBar10 u);
      research_32 = λ a s xs f u. ap said_reading (no_illuminance a s xs f VF u);
      research_40 = λ a s xs f u. ap said_reading (no_illuminance a s xs f VF10 u);
      mesopic = λ k a s xs h f u v. ap said_reading (no_mesopic a s xs f k h u v);
      xyz = λ o a s xs who e f u. ap said_xyz (no_xyz a s xs f who u o e);
      xy = λ o a s xs who e f u. ap said_xy (no_xy a s xs f who u o e);
      uv = λ o a s xs who e f u. ap said_uv (no_uv a s xs f who u o e);
      chart = λ o a s xs who e f u. ap said_chart (no_point a s xs f who u o e);
      figures = λ a s xs f u v. ap said_figures (no_figures a s xs f u v);
    }

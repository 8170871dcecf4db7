-- A white panel's sums are the greatest, sums are linear in the reflectances, and the divisors of x, y and of u′, v′ are 0 together.
use Rattle.light_promises.proofs.White.{is_given, at_most, white, grey, coordinates_given, all_figures_given, order}
use Rattle.light_promises.proofs.Refused.{panel_refused}
use Rattle.light_promises.proofs.panels.promise_panels.Goals as goal

pub returns : goal.returns
returns c =
    record {
      is_given = is_given;
      at_most = at_most;
      white = white;
      grey = grey;
      coordinates = coordinates_given;
      figures = all_figures_given;
      refused_alike = panel_refused;
      order = order;
    }

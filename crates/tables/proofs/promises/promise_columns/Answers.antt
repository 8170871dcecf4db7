-- Everything is the columns' own; the printed sums are the exact ones, rounded.
use Rattle.mixing.specs.Nearest.{nearest}
use Rattle.tables.specs.declared.Curve.TheVariants.{XBar, YBar, ZBar, XBar10, YBar10, ZBar10}
use Rattle.tables.proofs.Largest.{at_most_largest}
use Rattle.tables.proofs.Columns.{column, powers_column}
use Rattle.tables.proofs.Lit.{lit_sum_lem}
use Rattle.tables.proofs.Held.{weighs}
use Rattle.tables.proofs.promises.promise_columns.Goals as goal

pub returns : goal.returns
unfolding nearest
returns c =
    record {
      bounded = at_most_largest;
      column = column;
      powers_column = powers_column;
      lit = lit_sum_lem;
      no_digit_lost = weighs;
      x̄_printed = rw (column XBar).adds_up;
      ȳ_printed = rw (column YBar).adds_up;
      z̄_printed = rw (column ZBar).adds_up;
      x̄10_printed = rw (column XBar10).adds_up;
      ȳ10_printed = rw (column YBar10).adds_up;
      z̄10_printed = rw (column ZBar10).adds_up;
    }

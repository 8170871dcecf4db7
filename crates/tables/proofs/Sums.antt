-- What a curve's weights can add up to, alone and under an illuminant.
use mathlib.Core.Path.{refl}
use Prim.Native.Nat.{◌≤◌}
use Rattle.mixing.specs.Sum.{total}
use Rattle.tables.specs.Curves.{weight_of, lit_by}
use Rattle.tables.specs.Columns.{table_sum, lit_sum}
use Rattle.tables.proofs.Each.{each_most}
use Rattle.tables.proofs.Columns.{column_total}
use Rattle.tables.proofs.Lit.{lit_sum_lem}
use Rattle.tables.specs.declared.Curve.{Curve}
use Rattle.tables.specs.declared.Illuminant.{Illuminant}
use Rattle.tables.specs.declared.Illuminant.TheVariants.{A, D65}

pub table_sum_small : (c : Curve) → table_sum c ≤ 2000000000000000
table_sum_small = each_most table_sum 2000000000000000 refl

pub curve_sum : (c : Curve) → total 471 (weight_of c) ≤ 2000000000000000
curve_sum c = rw (column_total c) (table_sum_small c)

lit_sum_small : (i : Illuminant) (c : Curve) → lit_sum i c ≤ 13000000000000000000000
lit_sum_small A = each_most (lit_sum A) 13000000000000000000000 refl
lit_sum_small D65 = each_most (lit_sum D65) 13000000000000000000000 refl

pub lit_total : (i : Illuminant) (c : Curve) → total 471 (lit_by i c) ≤ 13000000000000000000000
lit_total i c = rw (lit_sum_lem i c) (lit_sum_small i c)

-- What a curve weighs, and an illuminant gives, at each place.
use Rattle.std.specs.Prelude.{ℕ, ◌*◌}
use Rattle.mixing.specs.Sum.{entry_of}
use Rattle.tables.specs.Tables.{table, powers}
use Rattle.tables.specs.declared.Curve.{Curve}
use Rattle.tables.specs.declared.Illuminant.{Illuminant}

-- the entry of a curve at 360 nm and k places on
abbrev pub weight_of : Curve → ℕ → ℕ
weight_of c k = entry_of (table c) k

-- that of an illuminant
abbrev pub power_of : Illuminant → ℕ → ℕ
power_of i k = entry_of (powers i) k

-- illuminant times curve at each nanometre
abbrev pub lit_by : Illuminant → Curve → ℕ → ℕ
lit_by i c k = power_of i k * weight_of c k

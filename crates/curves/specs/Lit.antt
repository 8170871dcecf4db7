-- A row under an illuminant, as it is worked: no promise to a caller rests on the reading of this.
use Rattle.std.specs.Prelude.{◌≡◌, List, ℕ, ◌+◌, ◌*◌, ◌^◌, ◌<◌}
use Rattle.mixing.specs.Sum.{entry_of}
use Rattle.tables.specs.declared.Illuminant.{Illuminant}
use Rattle.tables.specs.Curves.{power_of}

-- the light at a place: the two rows' numbers, the first of which counts 2^21 times
abbrev pub lit_line : List ℕ → List ℕ → ℕ → ℕ
lit_line high low k = entry_of high k * 2 ^ 21 + entry_of low k

-- which is power times row
abbrev pub IsLit : Illuminant → List ℕ → List ℕ → List ℕ → Type 0
IsLit i row high low = (k : ℕ) → k < 471 → lit_line high low k ≡ power_of i k * entry_of row k

-- The units of a table as the code holds it, in stretches of places: no promise to a caller rests on the reading of this.
use Rattle.std.specs.Prelude.{Bool, if◌then◌else◌, ◌&&◌, List, [], ◌∷◌, ℕ, nat_eq, nat_lt, nat_le}
use Rattle.tables.specs.declared.units.Stretch.{Stretch}

-- the places below `end`, from where the stretch before ends, counted in `unit`
abbrev pub stretch : ℕ → ℕ → Stretch
stretch end unit = record { end = end; unit = unit }

-- the unit at a place
unfoldable pub unit_at : List Stretch → ℕ → ℕ
unit_at [] k = 1
unit_at (first ∷ rest) k = if nat_lt k first.end then first.unit else unit_at rest k

-- from a place on, each stretch ends where the one before does or behind, and the last at the end of the row
abbrev pub in_order : ℕ → List Stretch → Bool
in_order begin [] = nat_eq begin 471
in_order begin (first ∷ rest) = nat_le begin first.end && in_order first.end rest

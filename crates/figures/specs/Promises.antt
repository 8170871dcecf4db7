-- What is promised of the bench figures: each row of the table holds.
use Rattle.std.specs.Prelude.{◌≡◌, List, [], ◌∷◌}
use Rattle.figures.specs.Asked.{answer_of}
use Rattle.figures.specs.Rows.{Row, rows}

-- each row is given as it says
abbrev pub Holds : List Row → Type 0
Holds [] = Unit {0}
Holds (r ∷ rs) = (answer_of r.asked ≡ r.answer) × Holds rs

-- the one claim of the table
abbrev pub Bench : Type 0
Bench = Holds rows

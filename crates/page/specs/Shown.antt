-- What the lines show: no promise to a caller rests on the reading of this.
use Rattle.std.specs.Prelude.{List, ℕ, decimal}
use Rattle.page.specs.declared.lines.Shown.{Shown}
use Rattle.page.specs.declared.lines.Shown.TheVariants.{Number, Coordinate, Refused}
use Rattle.page.specs.Report.{coordinate, numbered}

-- what a line shows behind its word
abbrev pub shown_text : Shown → List ℕ
shown_text (Number n) = decimal n
shown_text (Coordinate n) = coordinate n
shown_text (Refused r) = numbered r

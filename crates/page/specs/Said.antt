-- The rules' number, place and values of writing a report.
use Rattle.std.specs.Prelude.{Result, ℕ}
use Rattle.grid.specs.declared.refusals.Refusal.{Refusal}
use Rattle.grid.specs.Said.{Said, said}
use Rattle.record.specs.Said.{wrote}

abbrev pub said_reported : Result ℕ Refusal → Said
said_reported = said wrote

-- The rules' number, place and values of reading and of writing a record.
use Rattle.std.specs.Prelude.{Result, [], ◌∷◌, ℕ}
use Rattle.grid.specs.declared.refusals.Refusal.{Refusal}
use Rattle.grid.specs.Said.{Said, given, said}
use Rattle.record.specs.declared.Header.{Header}

-- a record was read, with this start, step and count
abbrev pub read_as : ℕ → ℕ → ℕ → Said
read_as a s n = given (a ∷ s ∷ n ∷ []) []

-- so many bytes were written
abbrev pub wrote : ℕ → Said
wrote n = given (n ∷ []) []

abbrev pub said_read : Result Header Refusal → Said
said_read = said (λ h. read_as h.start h.step h.count)

abbrev pub said_written : Result ℕ Refusal → Said
said_written = said wrote

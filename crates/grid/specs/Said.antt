-- The rules' number, place and values of an answer: what any answer says, whatever type it has.
use Rattle.std.specs.Prelude.{◌≡◌, Result, Ok, Err, List, [], ℕ, slice_index, Float}
use Rattle.grid.specs.declared.refusals.Refusal.{Refusal}
use Rattle.grid.specs.Refusals.{number_of}

-- number 0 where values are given, else the refusal's number and place, and no values
pub record Said : Type 0 where
  pub number : ℕ
  pub place : ℕ
  pub values : List ℕ
  pub floats : List Float

-- the value at a place, 0 where there is none
abbrev pub value : Said → ℕ → ℕ
value said i = slice_index said.values i

abbrev pub given : List ℕ → List Float → Said
given vs fs = record { number = 0; place = 0; values = vs; floats = fs }

abbrev pub refused_with : Refusal → Said
refused_with r = record { number = number_of r.kind; place = r.place; values = []; floats = [] }

-- what an answer says, where a value says this
abbrev pub said : {A : Type 0} → (A → Said) → Result A Refusal → Said
said says (Ok x) = says x
said says (Err r) = refused_with r

-- refused exactly as the other is, number and place; and given where it is
pub record RefusedAs (other said : Said) : Type 0 where
  pub same_number : said.number ≡ other.number
  pub same_place : said.place ≡ other.place

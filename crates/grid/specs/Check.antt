-- Which refusal is given, in which case and order.
use Rattle.std.specs.Prelude.{Bool, if◌then◌else◌, ◌&&◌, ◌||◌, ⊤, Result, Ok, Err, Option, Some, None, List, ℕ, ◌+◌, ◌*◌, ◌-◌, ◌≤◌, length, position, slice_index, nat_eq, nat_lt, nat_le}
use Rattle.grid.specs.declared.refusals.Kind.{Kind}
use Rattle.grid.specs.declared.refusals.Kind.TheVariants.{Step, Start, Count, Sample, Reflectance}
use Rattle.grid.specs.declared.refusals.Refusal.{Refusal}

abbrev pub refusal : Kind → ℕ → Refusal
refusal kind place = record { kind = kind; place = place }

-- what is found by a check: nothing, or a refusal
abbrev pub Check : Type 0
Check = Result ⊤ Refusal

abbrev pub Fine : Check
Fine = Ok tt

-- one answer, and where it is no refusal the next
infixl 10 ◌>>=◌
abbrev pub ◌>>=◌ : {A B : Type 0} → Result A Refusal → (A → Result B Refusal) → Result B Refusal
Ok x >>= next = next x
Err r >>= next = Err r

-- nothing where the test holds, else the refusal of this kind
abbrev pub require : Bool → Kind → Check
require test kind = if test then Fine else Err (refusal kind 0)

-- what there is where the answer is a refusal, and else
abbrev pub unless : {A B : Type 0} → Result A Refusal → B → B → B
unless (Ok x) refused otherwise = otherwise
unless (Err r) refused otherwise = refused

-- s is 1, 2, 5 or 10
abbrev pub is_step : ℕ → Bool
is_step s = nat_eq s 1 || nat_eq s 2 || nat_eq s 5 || nat_eq s 10

-- a is from 300 to 380
abbrev pub is_start : ℕ → Bool
is_start a = nat_le 300 a && nat_le a 380

-- the wavelength of the last sample
abbrev pub last_of : ℕ → ℕ → ℕ → ℕ
last_of a s n = a + s * (n - 1)

-- there is a last wavelength, and it is from 780 to 830
abbrev pub is_count : ℕ → ℕ → ℕ → Bool
is_count a s n = nat_lt 0 n && nat_le 780 (last_of a s n) && nat_le (last_of a s n) 830

-- STEP, START, COUNT
unfoldable pub grid_check : ℕ → ℕ → ℕ → Check
grid_check a s n = do
  _ ← require (is_step s) Step
  _ ← require (is_start a) Start
  require (is_count a s n) Count

-- a refusal at this place, if there is one
abbrev pub refused_at : Kind → Option ℕ → Check
refused_at kind None = Fine
refused_at kind (Some place) = Err (refusal kind place)

-- the refusal of this kind at the first entry above the limit
unfoldable pub limit_check : Kind → ℕ → List ℕ → Check
limit_check kind limit xs = refused_at kind (position (λ x. nat_lt limit x) xs)

-- no entry is above the limit
abbrev pub Within : ℕ → List ℕ → Type 0
Within limit xs = (k : ℕ) → slice_index xs k ≤ limit

-- SAMPLE: a sample above 1,000,000
abbrev pub samples_check : List ℕ → Check
samples_check xs = limit_check Sample 1000000 xs

-- STEP, START, COUNT, and then the refusal of this kind at the first entry above the limit
unfoldable pub spectrum_check : Kind → ℕ → ℕ → ℕ → List ℕ → Check
spectrum_check kind limit a s xs = do
  _ ← grid_check a s (length xs)
  limit_check kind limit xs

-- the checks of a light: STEP, START, COUNT, then SAMPLE
abbrev pub light_check : ℕ → ℕ → List ℕ → Check
light_check a s xs = spectrum_check Sample 1000000 a s xs

-- those of a panel's reflectances: STEP, START, COUNT, then REFLECTANCE
abbrev pub reflected_check : ℕ → ℕ → List ℕ → Check
reflected_check a s rs = spectrum_check Reflectance 10000 a s rs

-- Who looks, and under what, by the rules' numbers.
use Rattle.std.specs.Prelude.{Bool, if◌then◌else◌, ◌||◌, Result, Ok, Err, ℕ, nat_eq}
use Rattle.grid.specs.declared.refusals.Kind.TheVariants as refused
use Rattle.grid.specs.declared.refusals.Refusal.{Refusal}
use Rattle.grid.specs.Check.{refusal}
use Rattle.tables.specs.declared.Curve.TheVariants.{XBar, YBar, ZBar, XBar10, YBar10, ZBar10}
use Rattle.tables.specs.declared.Illuminant.{Illuminant}
use Rattle.tables.specs.declared.Illuminant.TheVariants.{A, D65}
use Rattle.tables.specs.declared.settings.Observer.{Observer}
use Rattle.tables.specs.declared.settings.Observer.TheVariants.{Two, Ten}
use Rattle.tables.specs.declared.settings.ObserverCurves.{ObserverCurves}

-- the observer is 2 or 10
abbrev pub is_observer : ℕ → Bool
is_observer o = nat_eq o 2 || nat_eq o 10

-- OBSERVER: neither 2 nor 10
abbrev pub observer_of : ℕ → Result Observer Refusal
observer_of o = if nat_eq o 2 then Ok Two else if nat_eq o 10 then Ok Ten else Err (refusal refused.Observer 0)

-- ILLUMINANT: neither 1 (A) nor 2 (D65)
abbrev pub illuminant_of : ℕ → Result Illuminant Refusal
illuminant_of i = if nat_eq i 1 then Ok A else if nat_eq i 2 then Ok D65 else Err (refusal refused.Illuminant 0)

-- x̄, ȳ and z̄, observer 10 with its own functions
abbrev pub curves_of : Observer → ObserverCurves
curves_of Two = record { x = XBar; y = YBar; z = ZBar }
curves_of Ten = record { x = XBar10; y = YBar10; z = ZBar10 }

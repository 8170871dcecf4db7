-- Which numbers are observers and illuminants.
use Rattle.std.proofs.Common.{◌≡◌, refl, sym, Bool, true, false, cond, ◌||◌, Result, Ok, Err, ℕ, nat_eq, ◌∙◌}
use borrow.Author.Tests.{eqb-true}
use Rattle.grid.specs.declared.refusals.Kind.TheVariants as refused
use Rattle.grid.specs.declared.refusals.Refusal.{Refusal}
use Rattle.grid.specs.Check.{refusal}
use Rattle.tables.specs.declared.Illuminant.{Illuminant}
use Rattle.tables.specs.declared.Illuminant.TheVariants.{A, D65}
use Rattle.tables.specs.declared.settings.Observer.{Observer}
use Rattle.tables.specs.declared.settings.Observer.TheVariants.{Two, Ten}
use Rattle.tables.specs.Settings.{is_observer, observer_of, illuminant_of}

abbrev pub observer_number : Observer → ℕ
observer_number Two = 2
observer_number Ten = 10

abbrev pub illuminant_number : Illuminant → ℕ
illuminant_number A = 1
illuminant_number D65 = 2

-- the only value of an Ok
same_ok : {A E : Type 0} (x y : A) → ◌≡◌ {A = Result A E} (Ok x) (Ok y) → x ≡ y
same_ok x y e = cc

pub observer_is : (o : ℕ) (observer : Observer) → observer_of o ≡ Ok observer → o ≡ observer_number observer
observer_is o observer e = go (nat_eq o 2) (nat_eq o 10) refl refl e
  where
    go :
        (two ten : Bool) → nat_eq o 2 ≡ two → nat_eq o 10 ≡ ten →
        ◌≡◌ {A = Result Observer Refusal} (cond two (Ok Two) (cond ten (Ok Ten) (Err (refusal refused.Observer 0)))) (Ok observer) →
        o ≡ observer_number observer
    go true ten p q e = eqb-true o 2 p ∙ rw (← same_ok Two observer e)
    go false true p q e = eqb-true o 10 q ∙ rw (← same_ok Ten observer e)
    go false false p q e = absurd (cc)

pub illuminant_is : (i : ℕ) (illuminant : Illuminant) → illuminant_of i ≡ Ok illuminant → i ≡ illuminant_number illuminant
illuminant_is i illuminant e = go (nat_eq i 1) (nat_eq i 2) refl refl e
  where
    go :
        (one two : Bool) → nat_eq i 1 ≡ one → nat_eq i 2 ≡ two →
        ◌≡◌ {A = Result Illuminant Refusal} (cond one (Ok A) (cond two (Ok D65) (Err (refusal refused.Illuminant 0)))) (Ok illuminant) →
        i ≡ illuminant_number illuminant
    go true two p q e = eqb-true i 1 p ∙ rw (← same_ok A illuminant e)
    go false true p q e = eqb-true i 2 q ∙ rw (← same_ok D65 illuminant e)
    go false false p q e = absurd (cc)

pub the_observer : (o : ℕ) → is_observer o ≡ true → (observer : Observer) × (observer_of o ≡ Ok observer)
the_observer o e = go (nat_eq o 2) (nat_eq o 10) e
  where
    go :
        (two ten : Bool) → (two || ten) ≡ true →
        (observer : Observer)
        × (◌≡◌ {A = Result Observer Refusal} (cond two (Ok Two) (cond ten (Ok Ten) (Err (refusal refused.Observer 0)))) (Ok observer))
    go true ten e = (Two, refl)
    go false true e = (Ten, refl)
    go false false e = absurd (cc)

pub no_observer : (o : ℕ) → is_observer o ≡ false → observer_of o ≡ Err (refusal refused.Observer 0)
no_observer o e = go (nat_eq o 2) (nat_eq o 10) e
  where
    go :
        (two ten : Bool) → (two || ten) ≡ false →
        ◌≡◌ {A = Result Observer Refusal} (cond two (Ok Two) (cond ten (Ok Ten) (Err (refusal refused.Observer 0)))) (Err (refusal refused.Observer 0))
    go true ten e = absurd (cc)
    go false true e = absurd (cc)
    go false false e = refl

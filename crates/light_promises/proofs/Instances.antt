-- What each reading is of an accepted light: linear sums over a number, or over another sum. The laws of mixed light and of the order
-- of light are taken at these.
use mathlib.Core.Path.{◌≡◌}
use Rattle.std.proofs.Common.{Ok, ap, ◌∙◌}
use mathlib.Core.Bool.{true}
use mathlib.Core.List.{[], ◌∷◌}
use Prim.Native.Nat.{ℕ, ◌+◌, ◌*◌, ◌-◌, ◌≤◌}
use native.Mathlib.Omega.{arith}
use borrow.Author.Tests.{le-leb}
use Rattle.grid.specs.Check.{light_check}
use Rattle.mixing.specs.Mixture.{Linear}
use Rattle.mixing.proofs.Mixture.{linear_plus, linear_times}
use Rattle.tables.specs.declared.Curve.{Curve}
use Rattle.tables.specs.declared.Curve.TheVariants.{YBar, VPrime, YBar10, VF, VF10}
use Rattle.tables.specs.declared.settings.Observer.{Observer}
use Rattle.tables.specs.Settings.{is_observer, observer_of, curves_of}
use Rattle.tables.specs.Curves.{weight_of}
use Rattle.tables.proofs.Asked.{the_observer}
use Rattle.spectrum.proofs.Measured.{W_linear}
use Rattle.answers.specs.Said.{said_reading, said_xyz, said_xy, said_uv}
use Rattle.answers.specs.Worked.{uv_divisor}
use Rattle.answers.proofs.Values.{xy_is, uv_is}
use Rattle.efficacy.specs.Divisors.{divisor_of}
use Rattle.readings.specs.Readings.{weighed, illuminance_of, mesopic_weighed, mesopic_of, xyz_of, xy_of, uv_of}
use Rattle.readings.specs.Sums.{mesopic_divisor}
use Rattle.efficacy.proofs.Worked.{millilux_worked}
use Rattle.readings.proofs.Given.{accepted_light, illuminance_given, mesopic_given, xyz_given, xy_given, uv_given}
use Rattle.readings.proofs.Worked.{mesopic_worked, xyz_worked}
use Rattle.readings.proofs.Small.{millilux_fits, mesopic_fits}
use Rattle.light_promises.specs.Lights.{Answer, Amounts, Colours}
use Rattle.light_promises.proofs.Sums.{Sums}
use Rattle.light_promises.proofs.Over.{Over}

-- of accepted lights, on any grid
abbrev pub LightSums : Answer → Type 0
LightSums answer = (a s : ℕ) → Sums (light_check a s) (answer a s)

abbrev pub LightOver : Answer → Type 0
LightOver answer = (a s : ℕ) → Over (light_check a s) (answer a s)

curve_linear : (n : ℕ) (c : Curve) (a s : ℕ) → Linear n (λ xs. weighed c a s xs)
curve_linear n c a s = W_linear n (weight_of c) a s

times_linear : (n f : ℕ) (c : Curve) (a s : ℕ) → Linear n (λ xs. f * weighed c a s xs)
times_linear n f c a s = linear_times n f (λ xs. weighed c a s xs) (curve_linear n c a s)

illuminance_sums : (c : Curve) → LightSums (λ a s xs. said_reading (illuminance_of c a s xs))
illuminance_sums c a s = record {
  sums = (λ xs. 683 * weighed c a s xs) ∷ [];
  divisor = s * divisor_of c;
  linear = λ n. (times_linear n 683 c a s, tt);
  some = λ xs fine. (millilux_fits a s xs (accepted_light a s xs fine) c).divisor;
  is = λ xs fine. rw (illuminance_given a s xs fine c, millilux_worked c s (weighed c a s xs));
}

mesopic_sums : (k : ℕ) → k ≤ 1000 → LightSums (λ a s xs. said_reading (mesopic_of k a s xs))
mesopic_sums k few a s = record {
  sums = (λ xs. 683 * mesopic_weighed k a s xs) ∷ [];
  divisor = mesopic_divisor k s;
  linear = λ n. (
    linear_times n 683 (λ xs. mesopic_weighed k a s xs)
        (linear_plus n (λ xs. k * weighed YBar a s xs) (λ xs. (1000 - k) * weighed VPrime a s xs) (times_linear n k YBar a s)
        (times_linear n (1000 - k) VPrime a s)),
    tt,
  );
  some = λ xs fine. (mesopic_fits a s xs (accepted_light a s xs fine) k few).divisor;
  is = λ xs fine. rw (mesopic_given a s xs fine k (le-leb k 1000 few), mesopic_worked k a s xs);
}

module _ (o : ℕ) (observer : Observer) (sees : observer_of o ≡ Ok observer) where
  abbrev x : Curve
  x = (curves_of observer).x

  abbrev y : Curve
  y = (curves_of observer).y

  abbrev z : Curve
  z = (curves_of observer).z

  xyz_sums : LightSums (λ a s xs. said_xyz (xyz_of o a s xs))
  xyz_sums a s = record {
    sums = (λ xs. 683 * weighed x a s xs) ∷ (λ xs. 683 * weighed y a s xs) ∷ (λ xs. 683 * weighed z a s xs) ∷ [];
    divisor = s * divisor_of y;
    linear = λ n. (times_linear n 683 x a s, (times_linear n 683 y a s, (times_linear n 683 z a s, tt)));
    some = λ xs fine. (millilux_fits a s xs (accepted_light a s xs fine) y).divisor;
    is = λ xs fine. ap said_xyz (xyz_given a s xs fine o observer sees ∙ ap Ok (xyz_worked observer a s xs));
  }

  xy_over_lem : LightOver (λ a s xs. said_xy (xy_of o a s xs))
  xy_over_lem a s = record {
    parts = (λ xs. weighed x a s xs) ∷ (λ xs. weighed y a s xs) ∷ [];
    divisor = λ xs. weighed x a s xs + weighed y a s xs + weighed z a s xs;
    linear = λ n.
        linear_plus n (λ xs. weighed x a s xs + weighed y a s xs) (λ xs. weighed z a s xs)
        (linear_plus n (λ xs. weighed x a s xs) (λ xs. weighed y a s xs) (curve_linear n x a s) (curve_linear n y a s))
        (curve_linear n z a s);
    all_parts = λ n. ((curve_linear n x a s, λ xs e. omega arith), ((curve_linear n y a s, λ xs e. omega arith), tt));
    is = λ xs fine. rw (xy_given a s xs fine o observer sees) (xy_is _ _ _);
  }

  uv_over_lem : LightOver (λ a s xs. said_uv (uv_of o a s xs))
  uv_over_lem a s = record {
    parts = (λ xs. 4 * weighed x a s xs) ∷ (λ xs. 9 * weighed y a s xs) ∷ [];
    divisor = λ xs. uv_divisor (weighed x a s xs) (weighed y a s xs) (weighed z a s xs);
    linear = λ n.
        linear_plus n (λ xs. weighed x a s xs + 15 * weighed y a s xs) (λ xs. 3 * weighed z a s xs)
        (linear_plus n (λ xs. weighed x a s xs) (λ xs. 15 * weighed y a s xs) (curve_linear n x a s) (times_linear n 15 y a s))
        (times_linear n 3 z a s);
    all_parts = λ n. ((times_linear n 4 x a s, λ xs e. omega arith), ((times_linear n 9 y a s, λ xs e. omega arith), tt));
    is = λ xs fine. rw (uv_given a s xs fine o observer sees) (uv_is _ _ _);
  }

-- what holds of any answer that is sums over a number holds of each amount, and what holds of any over a sum of each colour
pub amounts_of : (Holds : Answer → Type 0) → ((answer : Answer) → LightSums answer → Holds answer) → Amounts Holds
amounts_of Holds law = record {
  photopic = law _ (illuminance_sums YBar);
  scotopic = law _ (illuminance_sums VPrime);
  photopic_10 = law _ (illuminance_sums YBar10);
  research_32 = law _ (illuminance_sums VF);
  research_40 = law _ (illuminance_sums VF10);
  mesopic = λ k few. law _ (mesopic_sums k few);
  xyz = λ o t. let seen = the_observer o t in law _ (xyz_sums o seen.0 seen.1);
}

pub colours_of : (Holds : Answer → Type 0) → ((answer : Answer) → LightOver answer → Holds answer) → Colours Holds
colours_of Holds law = record {
  xy = λ o t. let seen = the_observer o t in law _ (xy_over_lem o seen.0 seen.1);
  uv = λ o t. let seen = the_observer o t in law _ (uv_over_lem o seen.0 seen.1);
}

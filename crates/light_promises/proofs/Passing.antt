-- Rows of one length that pass a check, and so does their mixture.
use mathlib.Core.Path.{◌≡◌}
use mathlib.Core.List.{List}
use Prim.Native.Nat.{ℕ}
use Rattle.grid.specs.Check.{Check, Fine}
use Rattle.mixing.specs.Mixture.{mixture, Each, Rows}

pub record Passing (check : List ℕ → Check) (n : ℕ) (xss : List (List ℕ)) : Type 0 where
  pub each : Each (λ xs. check xs ≡ Fine) xss
  pub rows : Rows n xss
  pub mixed : check (mixture n xss) ≡ Fine

-- What is promised of the slips: each gives another number than ours at a row of the bench table.
use Rattle.std.specs.Prelude.{◌≡◌, ℕ}
use Rattle.grid.specs.Said.{value}
use Rattle.figures.specs.Asked.{Asked, answer_of, photopic, xyz, xy, uv}
use Rattle.figures.specs.Rows.{lone, at460, full_light}
use Rattle.slips.specs.Slips.{x_from_rounded, u_from_rounded, each_rounded, at_samples, divided_early, z_filled}

-- what the version gives is not value i of what was asked: the one is `slip`, the other `ours`
pub record Apart (version slip : ℕ) (asked : Asked) (i ours : ℕ) : Type 0 where
  pub gives : version ≡ slip
  pub is : value (answer_of asked) i ≡ ours
  pub not_ours : version ≡ value (answer_of asked) i → ⊥

-- each slip, and a row where it gives another number than ours
pub record Slips : Type 0 where
  pub x_from_rounded_apart :
      let said = answer_of (xyz 2 380 1 (at460 1)) in
      Apart (x_from_rounded (value said 0) (value said 1) (value said 2)) 0 (xy 2 380 1 (at460 1)) 0 14396
  pub u_from_rounded_apart :
      let said = answer_of (xy 2 380 10 (lone 41 22 1000000)) in
      Apart (u_from_rounded (value said 0) (value said 1)) 40104 (uv 2 380 10 (lone 41 22 1000000)) 0 40103
  pub each_rounded_apart : Apart (each_rounded 360 1 full_light) 72983448 (photopic 360 1 full_light) 0 72983452
  pub at_samples_apart : Apart (at_samples 380 5 (lone 81 16 1000000)) 204900 (photopic 380 5 (lone 81 16 1000000)) 0 205365
  pub divided_early_apart : Apart (divided_early 380 5 (lone 81 35 1)) 1 (photopic 380 5 (lone 81 35 1)) 0 3
  pub filled_down_apart : Apart (z_filled 380 1 (lone 401 320 1000000)) 1 (xyz 2 380 1 (lone 401 320 1000000)) 2 0

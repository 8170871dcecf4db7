-- Coordinates fit 32 bits.
use Rattle.std.proofs.Common.{ℕ, ◌<◌, ◌≤◌, ◌*◌, arith}
use Rattle.mixing.proofs.Nearest.{nearest_bound}
use Rattle.exact.specs.Fits.{Fits}

pub coordinate_fits : (n d : ℕ) → 0 < d → n ≤ 4 * d → Fits (100000 * n) d
coordinate_fits n d pos h = record { divisor = pos; most = omega (arith, nearest_bound 400000 (100000 * n) d (omega arith)) }

-- The test is computed over the whole table.
use Rattle.figures.specs.Rows.{rows}
use Rattle.figures.proofs.Test.{holds, passes}
use Rattle.figures.proofs.promises.promise_bench.Goals as goal

pub returns : goal.returns
returns c = holds rows passes

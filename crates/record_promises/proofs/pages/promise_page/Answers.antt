-- A text ends as its last line does, and is no longer than its figures allow.
use Rattle.std.proofs.Common.{ap}
use Rattle.page.specs.Recorded.{recorded_figures}
use Rattle.page.specs.Said.{said_reported}
use Rattle.record_promises.proofs.Ends.{text_ends}
use Rattle.page.proofs.Length.{most, written}
use Rattle.record_promises.proofs.pages.promise_page.Goals as goal

pub returns : goal.returns
returns c =
    record {
      some = λ bytes. (text_ends (recorded_figures bytes)).some;
      ended = λ bytes. (text_ends (recorded_figures bytes)).ended;
      most = most;
      written = λ bytes room h. ap said_reported (written bytes room h);
    }

-- Both records are the record of the spectrum that was read.
use mathlib.Core.Path.{sym, ap, ◌∙◌}
use lib.ListN.{length}
use Rattle.record.specs.Format.{record_of}
use Rattle.record.specs.Answer.{header, read_answer}
use Rattle.record_promises.proofs.Round.{bytes_again}
use Rattle.record.proofs.SpectrumRead.{was_read, fine, same_spectrum}
use Rattle.record_promises.proofs.records.promise_one_to_one.Goals as goal

pub returns : goal.returns
returns c =
    record {
      same = λ bytes others row a s n known known' e e' samples.
          let h = header a s n in
          let one = was_read (read_answer bytes (length row)) a s n e in
          let other = was_read (read_answer others (length row)) a s n e' in
          sym (bytes_again bytes (fine bytes row h one) known)
          ∙ sym (same_spectrum bytes row h one record_of)
          ∙ ap (record_of a s) samples
          ∙ same_spectrum others row h other record_of
          ∙ bytes_again others (fine others row h other) known';
    }

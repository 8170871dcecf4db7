-- The fields' places in the number are what their widths say.
use Rattle.std.proofs.Common.{sym, ap, ◌∙◌, arith}
use Rattle.record.specs.Bits.{cut, bits_of, bytewise}
use Rattle.record.specs.Leaf.{header_bytes}
use Rattle.record.proofs.Rows.{pack_whole}
use Rattle.record.proofs.Packed.{header_fit, three_bytes}
use Rattle.record.proofs.head.header_bytes.Goals as goal

pub returns : goal.returns
unfolding header_bytes
returns c =
    let fit = header_fit c.args.start c.args.step c.args.count c.requires.1 c.requires.2 in
    rw (c.to_be_bytes.ensures)
    (sym (three_bytes _) ∙ ap (λ v. cut (bytewise 3) (bits_of 24 v)) (omega (arith, c.code_of.ensures.0)) ∙ ap (cut (bytewise 3)) (sym (pack_whole fit)))

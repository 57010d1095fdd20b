-- `vectors::call::pack_part` meets its contract: each turn moves a byte from the list into the number. Assumes nothing.
use Rattle.std.proofs.Common.{◌∙◌, sym, arith}
use Rattle.vectors.proofs.call.PackedAnswers.{one_behind, all_behind_lem}
use Rattle.vectors.proofs.call.pack_part.Goals as goal

pub loop-byte-preserved : goal.loop-byte-preserved
loop-byte-preserved c =
    let part = c.args.part.now in
    let at = c.loop-byte in
    let with = c.with_byte-packed in (
      omega arith,
      sym (one_behind part at.packed at.byte-index with.result (omega arith) with.ensures) ∙ at.invariant.1,
    )

pub returns : goal.returns
returns c =
    let at = c.loop-byte in
    sym (all_behind_lem c.args.part.now at.packed at.byte-index (omega arith)) ∙ at.invariant.1

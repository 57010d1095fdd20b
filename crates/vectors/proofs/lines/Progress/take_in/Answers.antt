-- `vectors::lines::Progress::take_in` meets its contract. Assumes nothing.
use Rattle.std.proofs.Common.{◌∙◌, sym, arith}
use Rattle.vectors.proofs.lines.Chunks.{one_taken, all_taken_lem}
use Rattle.vectors.proofs.lines.Progress.take_in.Goals as goal

pub loop-byte-preserved : goal.loop-byte-preserved
loop-byte-preserved g c =
    let chunk = c.args.chunk.now in
    let at = c.loop-byte in (
      omega arith,
      sym (one_taken chunk at.byte-index at.self _ (omega arith) c.take_byte.ensures) ∙ at.invariant.1,
    )

pub returns : goal.returns
returns g c =
    let at = c.loop-byte in
    sym (all_taken_lem c.args.chunk.now at.byte-index at.self (omega arith)) ∙ at.invariant.1

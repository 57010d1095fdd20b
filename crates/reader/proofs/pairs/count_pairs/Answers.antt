-- `reader::pairs::count_pairs` meets its contract. The invariant: what is counted and the pairs of the rest are those of the slice, and no
-- more are counted than bytes are past. Assumes nothing.
use Rattle.std.proofs.Common.{◌∙◌, arith}
use Rattle.std.proofs.lemmas.List.{take_rest}
use Rattle.reader.proofs.pairs.Counts.{part_turn}
use Rattle.reader.proofs.pairs.count_pairs.Goals as goal

pub loop-rest-preserved : goal.loop-rest-preserved
loop-rest-preserved c =
    let kept = c.loop-rest.invariant in
    let turn = part_turn c.args.pairs c.loop-rest.rest.now c.from-count.result (omega arith) (c.from-count.ensures ∙ c.count_short.ensures.0) in
    simp take_rest (omega (arith, kept.0, turn.0), omega (arith, kept.1, turn.1))

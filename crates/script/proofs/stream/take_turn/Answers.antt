-- `script::stream::take_turn` meets its contract. Assumes nothing.
use Rattle.script.proofs.stream.Pieces.{turned}
use Rattle.script.proofs.stream.take_turn.Goals as goal

pub returns : goal.returns
returns c =
    let a = c.answer-progress in
    let k = c.keep_tail-kept in
    let x = c.args.start in
    turned c.args.text.now c.args.buffer.now x.stage x.filled x.ended a.new.text k.new.buffer a.new.out a.result k.result c.next_of-next.result c.requires a.ensures.answers a.ensures.far c.next_of-next.ensures k.ensures.kept.0 k.ensures.kept.1 k.ensures.bytes

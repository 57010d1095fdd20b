-- `export::block::pawhetino_take_n` meets its contract. Assumes nothing.
use Rattle.std.proofs.Common.{refl, rules}
use Rattle.reader.specs.Answer.{number_of}
use Rattle.export.specs.State.{state_in}
use Rattle.export.specs.Calls.{block_taken_by}
use Rattle.export.specs.Code.Reply.{block_reply}
use Rattle.export.specs.Code.Block.{place_told}
use Rattle.export.proofs.reply.Words.{served_as}
use Rattle.export.proofs.block.pawhetino_take_n.Goals as goal

pub returns : goal.returns
unfolding block_taken_by block_reply
returns c =
    let a = c.args in
    served_as place_told number_of (block_reply (state_in a.state.now).cursor) a.reader a.state.now a.answer.now _ _ refl c.served.ensures
    (λ r x says. search rules)

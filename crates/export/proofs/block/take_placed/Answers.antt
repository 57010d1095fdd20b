-- `export::block::take_placed` meets its contract. Assumes nothing.
use Rattle.std.proofs.Common.{◌∙◌, ap}
use Rattle.export.specs.Code.Reply.{block_reply}
use Rattle.export.proofs.reply.Words.{block_law}
use Rattle.export.proofs.block.take_placed.Goals as goal

pub returns : goal.returns
returns c = rw c.place_in-found.ensures (block_law c.args.here.cursor c.take_n-answer.result ∙ ap (block_reply c.args.here.cursor) c.take_n-answer.ensures)

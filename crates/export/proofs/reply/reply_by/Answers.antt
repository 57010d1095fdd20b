-- `export::reply::reply_by` meets its contract. Assumes nothing.
use Rattle.export.proofs.reply.reply_by.Goals as goal

pub returns-in-Ok : goal.returns-in-Ok
returns-in-Ok g c = rw c.in-Ok.is (c.call.result, c.call.ensures, c.of_answer.ensures)

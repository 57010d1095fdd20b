-- `script::run::respond` meets its contract. Assumes nothing.
use Rattle.script.proofs.run.Responses.{stopped_by}
use Rattle.script.proofs.run.respond.Goals as goal

pub returns-in-Err : goal.returns-in-Err
returns-in-Err c = stopped_by c.in-Err.refusal (rw c.in-Err.is at c.allowed.ensures) (c.stop.ensures c.allowed.new.text)

-- `script::line::none_field` meets its contract. Assumes nothing.
use Rattle.script.proofs.line.Writes.{wrote_then}
use Rattle.script.proofs.line.none_field.Goals as goal

pub returns : goal.returns
returns c = wrote_then (wrote_then (wrote_then (wrote_then (wrote_then c.put-first.ensures c.put-second.ensures) c.put-third.ensures) c.put-fourth.ensures) c.put-fifth.ensures) c.put.ensures

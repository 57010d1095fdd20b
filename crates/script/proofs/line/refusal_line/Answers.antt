-- `script::line::refusal_line` meets its contract. Assumes nothing.
use Rattle.script.proofs.line.Writes.{wrote_then}
use Rattle.script.proofs.line.refusal_line.Goals as goal

pub returns : goal.returns
returns c = wrote_then (wrote_then c.put-begun.ensures c.number-end.ensures.wrote) c.put.ensures

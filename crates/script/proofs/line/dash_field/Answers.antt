-- `script::line::dash_field` meets its contract. Assumes nothing.
use Rattle.script.proofs.line.Writes.{wrote_then}
use Rattle.script.proofs.line.dash_field.Goals as goal

pub returns : goal.returns
returns c = wrote_then c.put-begun.ensures c.put.ensures

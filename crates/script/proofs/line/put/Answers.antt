-- `script::line::put` meets its contract. Assumes nothing.
use Rattle.script.proofs.line.Writes.{wrote_byte}
use Rattle.script.proofs.line.put.Goals as goal

pub returns : goal.returns
returns c = wrote_byte c.args.out.now c.args.at c.args.b c.requires

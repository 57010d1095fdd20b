-- `script::run::stop` meets its contract. Assumes nothing.
use mathlib.Core.Path.{refl}
use Rattle.script.proofs.run.Responses.{responds}
use Rattle.script.proofs.line.Writes.{wrote_as}
use Rattle.script.proofs.run.stop.Goals as goal

pub returns : goal.returns
returns c = λ buffer. responds c.responded.ensures (wrote_as c.refusal_line-end.ensures (rw c.number.ensures) refl) refl

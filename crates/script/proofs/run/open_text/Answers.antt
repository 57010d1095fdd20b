-- `script::run::open_text` meets its contract. Assumes nothing.
use mathlib.Core.Path.{sym}
use Rattle.script.specs.Run.{open_text}
use Rattle.script.proofs.run.Responses.{responds}
use Rattle.script.proofs.run.open_text.Goals as goal

pub returns-in-Ok : goal.returns-in-Ok
unfolding open_text
returns-in-Ok c = λ buffer.
    let told = sym c.in-Ok.ensures in
    responds c.responded.ensures (rw told c.open_line-end.ensures) (rw told)

pub returns-in-Err : goal.returns-in-Err
unfolding open_text
returns-in-Err c = λ buffer.
    let told = sym c.in-Err.ensures in
    responds c.responded-in-Err.ensures (rw told (rw c.number.ensures at c.open_line-end-in-Err.ensures)) (rw told)

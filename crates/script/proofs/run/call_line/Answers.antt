-- `script::run::call_line` meets its contract. Assumes nothing.
use native.Mathlib.Omega.{arith}
use Rattle.script.proofs.run.Responses.{call_responds}
use Rattle.script.proofs.run.call_line.Goals as goal

pub slice_bounds-reply_to-end : goal.slice_bounds-reply_to-end
slice_bounds-reply_to-end c = omega (arith, c.min-size.ensures)

pub returns : goal.returns
returns c =
    let a = c.args in
    let size = c.min-size in
    let reply = c.reply_to-reply in
    call_responds a.text.now size.result a.n a.state a.reader a.call reply.result size.ensures reply.ensures c.reply_line-end.ensures c.responded.ensures

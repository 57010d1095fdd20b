-- `script::line::reply_line` meets its contract. Assumes nothing.
use mathlib.Core.Path.{refl}
use Rattle.script.specs.Reply.{reply_line}
use Rattle.script.proofs.line.Writes.{wrote_then, wrote_as}
use Rattle.script.proofs.line.reply_line.Goals as goal

pub returns : goal.returns
unfolding reply_line
returns c =
    wrote_as
    (wrote_then c.put-begun.ensures c.reply_fields.ensures)
    (rw c.kind_digit.ensures)
    refl

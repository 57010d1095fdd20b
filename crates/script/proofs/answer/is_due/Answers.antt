-- `script::answer::is_due` meets its contract. Assumes nothing.
use mathlib.Core.Path.{◌∙◌, sym}
use native.Mathlib.Omega.{arith}
use borrow.Author.Tests.{le-leb, lt-leb}
use Rattle.script.specs.Line.{longest_line}
use Rattle.script.specs.Script.{is_due}
use Rattle.script.proofs.answer.is_due.Goals as goal

pub returns-then-is_stopped : goal.returns-then-is_stopped
unfolding is_due
returns-then-is_stopped c = rw (sym c.is_stopped.ensures ∙ c.if-is_stopped.true)

pub returns-then-room-lt-LONGEST : goal.returns-then-room-lt-LONGEST
unfolding is_due
returns-then-room-lt-LONGEST c = rw (sym c.is_stopped.ensures ∙ c.if-is_stopped.false, lt-leb longest_line c.args.room (omega arith))

pub returns-then-ended : goal.returns-then-ended
unfolding is_due
returns-then-ended c = rw (sym c.is_stopped.ensures ∙ c.if-is_stopped.false, le-leb longest_line c.args.room (omega arith), c.if-ended.true)

pub returns : goal.returns
unfolding is_due
returns c = rw (sym c.is_stopped.ensures ∙ c.if-is_stopped.false, le-leb longest_line c.args.room (omega arith), c.if-ended.false)

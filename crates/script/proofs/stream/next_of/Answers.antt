-- `script::stream::next_of` meets its contract. Assumes nothing.
use mathlib.Core.Path.{◌∙◌, sym}
use native.Mathlib.Omega.{arith}
use borrow.Author.Tests.{lt-ltb, le-ltb}
use Rattle.script.specs.Line.{longest_line}
use Rattle.script.specs.Stream.{next_of}
use Rattle.script.proofs.stream.next_of.Goals as goal

pub returns-then-is_stopped : goal.returns-then-is_stopped
unfolding next_of
returns-then-is_stopped c = rw (sym c.is_stopped.ensures ∙ c.if-is_stopped.true)

pub returns-then-room-lt-LONGEST : goal.returns-then-room-lt-LONGEST
unfolding next_of
returns-then-room-lt-LONGEST c = rw (sym c.is_stopped.ensures ∙ c.if-is_stopped.false, lt-ltb c.args.room longest_line (omega arith))

pub returns-then-ended : goal.returns-then-ended
unfolding next_of
returns-then-ended c = rw (sym c.is_stopped.ensures ∙ c.if-is_stopped.false, le-ltb c.args.room longest_line (omega arith), c.if-ended.true)

pub returns-else-ended : goal.returns-else-ended
unfolding next_of
returns-else-ended c = rw (sym c.is_stopped.ensures ∙ c.if-is_stopped.false, le-ltb c.args.room longest_line (omega arith), c.if-ended.false)

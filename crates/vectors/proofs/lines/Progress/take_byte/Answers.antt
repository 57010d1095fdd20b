-- `vectors::lines::Progress::take_byte` meets its contract. Assumes nothing.
use borrow.Author.Tests.{eq-eqb, ne_eqb, lt-ltb, le-ltb}
use Rattle.vectors.specs.Lines.{byte_taken}
use Rattle.vectors.proofs.lines.Progress.take_byte.Goals as goal

pub returns-then-byte-eq10 : goal.returns-then-byte-eq10
unfolding byte_taken
returns-then-byte-eq10 g c = rw (eq-eqb _ _ c.if-byte-eq10.true) c.end_line.ensures

pub returns-then-filled : goal.returns-then-filled
unfolding byte_taken
returns-then-filled g c = rw (ne_eqb _ _ c.if-byte-eq10.false, lt-ltb _ _ c.if-filled.true)

pub returns-else-filled : goal.returns-else-filled
unfolding byte_taken
returns-else-filled g c = rw (ne_eqb _ _ c.if-byte-eq10.false, le-ltb _ _ c.if-filled.false)

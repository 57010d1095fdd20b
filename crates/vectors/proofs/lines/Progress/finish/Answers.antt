-- `vectors::lines::Progress::finish` meets its contract. Assumes nothing.
use borrow.Author.Tests.{eq-eqb, ne_eqb}
use Rattle.vectors.specs.Lines.{finished}
use Rattle.vectors.proofs.lines.Progress.finish.Goals as goal

pub returns-then-nothing : goal.returns-then-nothing
unfolding finished
returns-then-nothing g c = rw (eq-eqb _ _ c.if-nothing.true)

pub returns : goal.returns
unfolding finished
returns g c = rw (ne_eqb _ _ c.if-nothing.false) c.end_line.ensures

-- `vectors::lines::Progress::parse_filled` meets its contract. Assumes nothing.
use borrow.Author.Tests.{lt-ltb, le-ltb}
use Rattle.vectors.specs.Lines.{filled_record}
use Rattle.vectors.proofs.lines.Progress.parse_filled.Goals as goal

pub returns-then-self : goal.returns-then-self
unfolding filled_record
returns-then-self g c = rw (lt-ltb _ _ c.if-self.true) c.parse.ensures

pub returns-else-self : goal.returns-else-self
unfolding filled_record
returns-else-self g c = rw (le-ltb _ _ c.if-self.false)

-- `export::state::reader_on` meets its contract. Assumes nothing.
use borrow.Author.Tests.{eq-eqb, ne_eqb}
use Rattle.export.specs.State.{reader_on}
use Rattle.export.proofs.state.reader_on.Goals as goal

pub returns-then-edition-ne0 : goal.returns-then-edition-ne0
unfolding reader_on
returns-then-edition-ne0 c = rw (ne_eqb _ _ c.if-edition-ne0.true)

pub returns : goal.returns
unfolding reader_on
returns c = rw (eq-eqb _ _ c.if-edition-ne0.false) c.try_from.ensures

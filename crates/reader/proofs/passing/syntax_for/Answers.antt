-- `reader::passing::syntax_for` meets its contract: what a sheet says is what its word says. Assumes nothing.
use Rattle.reader.specs.Reading.{syntax_on}
use Rattle.reader.proofs.passing.syntax_for.Goals as goal

pub returns : goal.returns
unfolding syntax_on
returns c = c.syntax_of.ensures

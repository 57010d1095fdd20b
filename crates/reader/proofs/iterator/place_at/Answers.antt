-- `reader::iterator::place_at` meets its contract. Assumes nothing.
use Rattle.std.proofs.Common.{arith, rules}
use Rattle.reader.proofs.passing.Places.{no_separator}
use Rattle.reader.proofs.passing.Landings.{stays_at_end, stays_on_other}
use Rattle.reader.proofs.iterator.place_at.Goals as goal

pub returns-then-s-at : goal.returns-then-s-at
returns-then-s-at c = (stays_at_end _ _ _ _ c.if-s-at.true, search rules)

pub returns-then-b-syntax : goal.returns-then-b-syntax
returns-then-b-syntax c = (stays_on_other _ _ _ _ (omega arith) (no_separator _ _ c.if-b-syntax.true), search rules)

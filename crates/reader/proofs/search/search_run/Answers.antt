-- `reader::search::search_run` meets its contract. Assumes nothing.
use Rattle.reader.proofs.search.RunSteps.{no_separator_sought, nothing_left}
use Rattle.reader.proofs.search.search_run.Goals as goal

pub returns-in_default : goal.returns-in_default
returns-in_default c = no_separator_sought _ _ _ c.in_default.ensures

pub returns-then-s-at : goal.returns-then-s-at
returns-then-s-at c = nothing_left _ _ _ c.if-s-at.true

pub returns : goal.returns
returns c = rw (← c.in-Some.ensures) c.search_from.ensures.0

-- `reader::skip::shown_count` meets its contract. Assumes nothing.
use Rattle.std.proofs.Common.{sym}
use Rattle.reader.specs.Reading.{reading_with}
use Rattle.reader.specs.Calls.{shown_count}
use Rattle.reader.proofs.skip.shown_count.Goals as goal

pub returns-then-has_any : goal.returns-then-has_any
unfolding shown_count reading_with
returns-then-has_any c = rw (sym c.has_any.ensures, c.if-has_any.true) c.count.ensures

pub returns : goal.returns
unfolding shown_count reading_with
returns c = rw (sym c.has_any.ensures, c.if-has_any.false, c.own_count.ensures, c.unflagged_count.ensures)

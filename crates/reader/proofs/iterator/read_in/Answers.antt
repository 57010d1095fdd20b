-- `reader::iterator::read_in` meets its contract: a byte that was looked at is taken if it is in the set. Assumes nothing.
use Rattle.std.proofs.Common.{sym, ◌∙◌, arith}
use Rattle.word.specs.ByteSet.{member}
use Rattle.reader.specs.Reading.{reading_with}
use Rattle.reader.proofs.skip.Looks.{reads_byte, declines_byte, reads_end, reads_refused}
use Rattle.reader.proofs.iterator.read_in.Goals as goal

pub overflow_add-seen : goal.overflow_add-seen
overflow_add-seen c =
    let fits = rw c.in-Some.is at c.in-Ok.ensures.fits in
    omega (arith, fits.0)

pub returns-then-contains : goal.returns-then-contains
returns-then-contains c =
    let a = c.args in
    let m = reading_with a.syntax in
    rw (c.new-then-contains.ensures, c.moved.ensures)
    (reads_byte m a.s.now a.state a.reader _ c.in-Ok.ensures.outcome _ c.in-Some.is
    (member a.wanted) (sym c.contains.ensures ∙ c.if-contains.true))

pub returns-else-contains : goal.returns-else-contains
returns-else-contains c =
    let a = c.args in
    let m = reading_with a.syntax in
    rw (c.new-in-Ok.ensures, c.moved-there.ensures)
    (declines_byte m a.s.now a.state a.reader _ c.in-Ok.ensures.outcome _ c.in-Some.is
    (member a.wanted) (sym c.contains.ensures ∙ c.if-contains.false))

pub returns-in_default : goal.returns-in_default
returns-in_default c =
    let a = c.args in
    let m = reading_with a.syntax in
    rw (c.new.ensures, c.moved-there.ensures)
    (reads_end m a.s.now a.state a.reader _ c.in-Ok.ensures.outcome c.in_default.is (member a.wanted))

pub returns-in-Err : goal.returns-in-Err
returns-in-Err c =
    let a = c.args in
    let m = reading_with a.syntax in
    rw c.refused.ensures (reads_refused m a.s.now a.state a.reader _ c.in-Err.ensures.outcome (member a.wanted))

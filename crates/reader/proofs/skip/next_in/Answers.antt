-- `reader::skip::next_in` meets its contract: a byte that was looked at is taken. Assumes nothing.
use Rattle.std.proofs.Common.{arith}
use Rattle.reader.specs.State.{moved_to}
use Rattle.reader.specs.Reading.{reading_with}
use Rattle.reader.proofs.skip.Looks.{takes_byte, takes_end, takes_refused}
use Rattle.reader.proofs.skip.next_in.Goals as goal

pub past_byte-requires : goal.past_byte-requires
unfolding moved_to
past_byte-requires c =
    let fits = rw c.in-Some.is at c.in-Ok.ensures.fits in
    rw c.moved-there.ensures (omega (arith, fits.0), fits.1)

pub returns-in-Some : goal.returns-in-Some
returns-in-Some c =
    let a = c.args in
    let m = reading_with a.syntax in
    rw (c.new.ensures, c.past_byte.ensures, c.moved-there.ensures)
    (takes_byte m a.s.now a.state a.reader _ c.in-Ok.ensures.outcome _ c.in-Some.is)

pub returns-in-None : goal.returns-in-None
returns-in-None c =
    let a = c.args in
    let m = reading_with a.syntax in
    rw (c.new-in-None.ensures, c.moved-there.ensures)
    (takes_end m a.s.now a.state a.reader _ c.in-Ok.ensures.outcome c.in-None.is)

pub returns-in-Err : goal.returns-in-Err
returns-in-Err c =
    let a = c.args in
    rw c.refused.ensures (takes_refused (reading_with a.syntax) a.s.now a.state a.reader _ c.in-Err.ensures.outcome)

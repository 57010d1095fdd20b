-- `reader::iterator::skip_zeros_in` meets its contract: refusals first, and then the reads. Assumes nothing.
use Rattle.std.proofs.Common.{sym, ne_eqb}
use Rattle.reader.specs.Reading.{reading_with}
use Rattle.reader.proofs.iterator.Zeros.{skip_refused}
use Rattle.reader.proofs.iterator.skip_zeros_in.Goals as goal

pub take_separator_zeros-requires : goal.take_separator_zeros-requires
take_separator_zeros-requires c = (sym c.in-Ok.ensures, c.if-syntax-eq48.true)

pub take_zeros-requires : goal.take_zeros-requires
take_zeros-requires c = (sym c.in-Ok.ensures, ne_eqb _ 48 c.if-syntax-eq48.false)

pub returns-in-Err : goal.returns-in-Err
unfolding reading_with
returns-in-Err c =
    let a = c.args in
    rw c.refused.ensures (skip_refused (reading_with a.syntax) a.s.now a.state a.reader _ c.in-Err.ensures)

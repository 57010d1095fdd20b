-- `export::zeros::pawhetino_skip_zeros` meets its contract: where there is a byte that is neither a zero nor a separator, or the end, no zero
-- is found, anything else is left to the reader. Assumes nothing.
use borrow.Author.Tests.{ne_eqb}
use Rattle.export.proofs.here.Sight.{byte_sight, end_sight}
use Rattle.export.proofs.here.Calls.{skipped_other, skipped_end}
use Rattle.export.proofs.here.LentWords.{unmoved}
use Rattle.export.proofs.zeros.pawhetino_skip_zeros.Goals as goal

pub returns-else-zero : goal.returns-else-zero
returns-else-zero c =
    let a = c.args in
    let here = byte_sight a.reader a.state.now a.s.now _ c.found_here-here.ensures _ c.in-Byte.is in
    rw (skipped_other a.reader a.state.now a.s.now _ here (ne_eqb _ _ c.if-zero.false)) (record {
      number = c.stay.ensures.number;
      moved = unmoved a.state.now c.told-state;
      written = c.stay.ensures.written;
    })

pub returns-in-End : goal.returns-in-End
returns-in-End c =
    let a = c.args in
    let here = end_sight a.reader a.state.now a.s.now _ c.found_here-here.ensures c.in-End.is in
    rw (skipped_end a.reader a.state.now a.s.now here) (record {
      number = c.stay-in-End.ensures.number;
      moved = unmoved a.state.now c.told-state;
      written = c.stay-in-End.ensures.written;
    })

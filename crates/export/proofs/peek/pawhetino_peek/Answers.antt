-- `export::peek::pawhetino_peek` meets its contract: a byte that is no separator, the end, and a digit behind a separator that is passed are
-- seen by numbers, anything else is left to the reader. Assumes nothing.
use mathlib.Core.Path.{◌∙◌, sym}
use Rattle.export.proofs.here.Sight.{byte_sight, end_sight, on_separator}
use Rattle.export.proofs.here.Calls.{peeked_here}
use Rattle.export.proofs.here.LentWords.{own_fits, unmoved}
use Rattle.export.proofs.over.Steps.{peek_over_words}
use Rattle.export.proofs.peek.pawhetino_peek.Goals as goal

pub over_here-requires : goal.over_here-requires
over_here-requires c =
    let a = c.args in
    let here = on_separator a.reader a.state.now a.s.now _ c.found_here-here.ensures c.in-Separator.is in
    (here.low, (here.inside, own_fits a.reader here.low a.state.now here.fit))

pub returns-then-over_here : goal.returns-then-over_here
returns-then-over_here c =
    let a = c.args in
    let here = on_separator a.reader a.state.now a.s.now _ c.found_here-here.ensures c.in-Separator.is in
    let told = c.over_here.ensures in
    rw (told.moved, told.written, c.if-over_here.true) (peek_over_words a.reader a.state.now a.s.now (sym told.over ∙ c.if-over_here.true) here a.answer.now)

pub returns-in-Byte : goal.returns-in-Byte
returns-in-Byte c =
    let a = c.args in
    let here = byte_sight a.reader a.state.now a.s.now _ c.found_here-here.ensures _ c.in-Byte.is in
    rw (peeked_here a.reader a.state.now a.s.now _ here) (record {
      number = c.stay.ensures.number;
      moved = unmoved a.state.now c.told-state;
      written = rw c.from-byte.ensures at c.stay.ensures.written;
    })

pub returns-in-End : goal.returns-in-End
returns-in-End c =
    let a = c.args in
    let here = end_sight a.reader a.state.now a.s.now _ c.found_here-here.ensures c.in-End.is in
    rw (peeked_here a.reader a.state.now a.s.now _ here) (record {
      number = c.answer_none.ensures.number;
      moved = unmoved a.state.now c.told-state;
      written = c.answer_none.ensures.written;
    })

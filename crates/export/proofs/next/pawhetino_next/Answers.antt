-- `export::next::pawhetino_next` meets its contract: a byte that is no separator, and a digit behind one that is passed, are taken by numbers,
-- at the end nothing is, anything else is left to the reader. Assumes nothing.
use mathlib.Core.Path.{◌∙◌, sym}
use native.Mathlib.Omega.{arith}
use Rattle.export.proofs.here.Sight.{byte_inside, byte_sight, end_sight, on_separator}
use Rattle.export.proofs.here.Calls.{next_words, taken_end}
use Rattle.export.proofs.here.LentWords.{own_fits, unmoved}
use Rattle.export.proofs.over.Steps.{next_over_words}
use Rattle.export.proofs.next.pawhetino_next.Goals as goal

pub overflow_add-past : goal.overflow_add-past
overflow_add-past c =
    let a = c.args in
    let inside = byte_inside a.reader a.state.now a.s.now _ c.found_here-here.ensures _ c.in-Byte.is in
    omega (arith, inside)

pub own_bits-requires : goal.own_bits-requires
own_bits-requires c =
    let a = c.args in
    let here = byte_sight a.reader a.state.now a.s.now _ c.found_here-here.ensures _ c.in-Byte.is in here.low

pub put_at-requires : goal.put_at-requires
put_at-requires c =
    let a = c.args in
    let here = byte_sight a.reader a.state.now a.s.now _ c.found_here-here.ensures _ c.in-Byte.is in
    let inside = byte_inside a.reader a.state.now a.s.now _ c.found_here-here.ensures _ c.in-Byte.is in
    (here.low, omega (arith, inside, own_fits a.reader here.low a.state.now here.fit))

pub over_here-requires : goal.over_here-requires
over_here-requires c =
    let a = c.args in
    let here = on_separator a.reader a.state.now a.s.now _ c.found_here-here.ensures c.in-Separator.is in
    (here.low, (here.inside, own_fits a.reader here.low a.state.now here.fit))

pub returns-then-over_here : goal.returns-then-over_here
returns-then-over_here c =
    let a = c.args in
    let here = on_separator a.reader a.state.now a.s.now _ c.found_here-here.ensures c.in-Separator.is in
    let told = c.over_here.ensures in
    rw (told.moved, told.written, c.if-over_here.true) (next_over_words a.reader a.state.now a.s.now (sym told.over ∙ c.if-over_here.true) here a.answer.now)

pub returns-in-Byte : goal.returns-in-Byte
returns-in-Byte c =
    let a = c.args in
    let here = byte_sight a.reader a.state.now a.s.now _ c.found_here-here.ensures _ c.in-Byte.is in
    let own = rw c.format_in-format.ensures at c.own_bits.ensures in
    rw (c.put_at.ensures, c.from-byte.ensures)
    (next_words a.reader a.state.now a.s.now _ here a.answer.now _
    (rw (c.char_is_digit_by_table.ensures, c.has_any.ensures, c.own_flags.ensures, own.shifted, c.mantissa_radix_byte.ensures, c.format_in-format.ensures)) own.small)

pub returns-in-End : goal.returns-in-End
returns-in-End c =
    let a = c.args in
    let here = end_sight a.reader a.state.now a.s.now _ c.found_here-here.ensures c.in-End.is in
    rw (taken_end a.reader a.state.now a.s.now here) (record {
      number = c.answer_none.ensures.number;
      moved = unmoved a.state.now c.told-state;
      written = c.answer_none.ensures.written;
    })

-- `export::read::pawhetino_read_if` meets its contract: a byte that is no separator is read where it is, at the end nothing is, anything
-- else is left to the reader. Assumes nothing.
use mathlib.Core.Path.{sym, ◌∙◌}
use native.Mathlib.Omega.{arith}
use Rattle.export.proofs.here.Sight.{byte_inside, byte_sight, end_sight}
use Rattle.export.proofs.here.Calls.{read_taken_words, read_declined_words, read_end_words}
use Rattle.word.specs.ByteSet.{member}
use Rattle.export.specs.Calls.{set_in}
use Rattle.export.proofs.read.pawhetino_read_if.Goals as goal

pub returns-then-not-wanted : goal.returns-then-not-wanted
returns-then-not-wanted c =
    let a = c.args in
    let here = byte_sight a.reader a.state.now a.s.now _ c.found_here-here.ensures _ c.in-Byte.is in
    let told = c.decline_here.ensures in
    rw (told.number, told.written) (read_declined_words a.reader a.state.now a.s.now _ here (member (set_in a.set.now)) (sym c.has_byte-wanted.ensures ∙ c.if-not-wanted.true) c.told-state a.answer.now)

pub overflow_add-past : goal.overflow_add-past
overflow_add-past c =
    let a = c.args in
    let inside = byte_inside a.reader a.state.now a.s.now _ c.found_here-here.ensures _ c.in-Byte.is in
    omega (arith, inside)

pub returns-else-not-wanted : goal.returns-else-not-wanted
returns-else-not-wanted c =
    let a = c.args in
    let here = byte_sight a.reader a.state.now a.s.now _ c.found_here-here.ensures _ c.in-Byte.is in
    let took = c.take_here.ensures in
    rw (took.number, took.moved, took.written) (read_taken_words a.reader a.state.now a.s.now _ here (member (set_in a.set.now)) (sym c.has_byte-wanted.ensures ∙ c.if-not-wanted.false) a.answer.now)

pub returns-in-End : goal.returns-in-End
returns-in-End c =
    let a = c.args in
    let here = end_sight a.reader a.state.now a.s.now _ c.found_here-here.ensures c.in-End.is in
    let told = c.answer_none.ensures in
    rw (told.number, told.written) (read_end_words a.reader a.state.now a.s.now here (member (set_in a.set.now)) c.told-state a.answer.now)

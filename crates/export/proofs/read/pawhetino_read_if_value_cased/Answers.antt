-- `export::read::pawhetino_read_if_value_cased` meets its contract: a byte that is no separator is read where it is, at the end nothing is, anything
-- else is left to the reader. Assumes nothing.
use native.Mathlib.Omega.{arith}
use lib.Dec.{eqb}
use borrow.Author.Tests.{eq-eqb, ne_eqb}
use Rattle.export.proofs.here.Sight.{byte_inside, byte_sight, end_sight}
use Rattle.export.proofs.here.Calls.{read_taken_words, read_declined_words, read_end_words}
use Rattle.export.proofs.read.pawhetino_read_if_value_cased.Goals as goal

pub returns-then-b-value : goal.returns-then-b-value
returns-then-b-value c =
    let a = c.args in
    let here = byte_sight a.reader a.state.now a.s.now _ c.found_here-here.ensures _ c.in-Byte.is in
    let told = c.decline_here.ensures in
    rw (told.number, told.written) (read_declined_words a.reader a.state.now a.s.now _ here (λ b. eqb b a.value) (ne_eqb _ _ c.if-b-value.true) c.told-state a.answer.now)

pub overflow_add-past : goal.overflow_add-past
overflow_add-past c =
    let a = c.args in
    let inside = byte_inside a.reader a.state.now a.s.now _ c.found_here-here.ensures _ c.in-Byte.is in
    omega (arith, inside)

pub returns-else-b-value : goal.returns-else-b-value
returns-else-b-value c =
    let a = c.args in
    let here = byte_sight a.reader a.state.now a.s.now _ c.found_here-here.ensures _ c.in-Byte.is in
    let took = c.take_here.ensures in
    rw (took.number, took.moved, took.written) (read_taken_words a.reader a.state.now a.s.now _ here (λ b. eqb b a.value) (eq-eqb _ _ c.if-b-value.false) a.answer.now)

pub returns-in-End : goal.returns-in-End
returns-in-End c =
    let a = c.args in
    let here = end_sight a.reader a.state.now a.s.now _ c.found_here-here.ensures c.in-End.is in
    let told = c.answer_none.ensures in
    rw (told.number, told.written) (read_end_words a.reader a.state.now a.s.now here (λ b. eqb b a.value) c.told-state a.answer.now)

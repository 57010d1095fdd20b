-- `script::answer::answer` meets its contract: Records.antt has the loop's laws. Assumes nothing.
use mathlib.Core.Path.{refl, ◌∙◌, ap}
use native.Mathlib.Omega.{arith}
use lib.ListN.{length-drop}
use Rattle.script.specs.Record.{size_behind}
use Rattle.script.specs.Run.{run_in}
use Rattle.std.proofs.lemmas.List.{take_rest}
use Rattle.script.proofs.answer.Records.{answering_starts, answering_goes_on, due_room, due_whole, nothing_due, not_due, responds_at}
use Rattle.script.proofs.answer.answer.Goals as goal
use Rattle.script.proofs.answer.answer.Goals.{in-Some+then-not-is_due, in_default}

pub loop-first-init : goal.loop-first-init
loop-first-init c =
    let a = c.args in
    answering_starts a.text.now a.begun a.input.now a.ended a.out.now

pub overflow_sub-out : goal.overflow_sub-out
overflow_sub-out c = omega (arith, c.loop-first.invariant.written)

pub respond-response-requires : goal.respond-response-requires
respond-response-requires c =
    let l = c.loop-first in
    let due = c.is_due in
    omega (arith, due_room _ _ _ _ _ due.result due.ensures c.if-not-is_due.false, l.invariant.written)

pub loop-first-smaller : goal.loop-first-smaller
loop-first-smaller c =
    let body = c.in-Some.body.now in
    rw (take_rest body c.min.result) (omega (arith, c.in-Some.ensures.cases.1, length-drop c.min.result body))

pub loop-first-preserved : goal.loop-first-preserved
loop-first-preserved c =
    let l = c.loop-first in
    let kind = c.try_from-kind in
    let size = c.size_behind-size.ensures ∙ ap size_behind kind.ensures in
    let due = c.is_due in
    let answer = c.respond-response.ensures in
    let first = c.in-Some.first.now in
    let body = c.in-Some.body.now in
    rw (take_rest body c.min.result)
    (answering_goes_on first body (rw c.in-Some.ensures.cases.0 at l.invariant)
    (λ more. omega (arith, due_whole _ _ _ _ _ due.result due.ensures c.if-not-is_due.false more, size))
    (c.min.ensures ∙ rw size)
    (responds_at (run_in l.text l.stage) _ first kind.result c.record_behind-asked.result kind.ensures c.record_behind-asked.ensures answer))

pub overflow_sub-result : goal.overflow_sub-result
overflow_sub-result c = omega (arith, c.loop-first.invariant.read)

pub returns-clause-far : goal.returns-clause-far
returns-clause-far c =
    let l = c.loop-first in
    rw l.invariant.place
    (elim c.match-split_first.branch [
      | in-Some+then-not-is_due w ↦
          rw w.in-Some.ensures.cases.0
          (not_due w.in-Some.first.now w.in-Some.body.now l.stage _ _ _ _ w.is_due.result w.is_due.ensures w.if-not-is_due.true (w.size_behind-size.ensures ∙ ap size_behind w.try_from-kind.ensures) refl)
      | in_default w ↦ nothing_due l.rest.now l.stage _ _ w.in_default.ensures.cases
    ])

pub returns-clause-answers : goal.returns-clause-answers
returns-clause-answers c =
    let i = c.loop-first.invariant in
    record { read = omega arith; written = i.written; prints = rw i.place i.prints }

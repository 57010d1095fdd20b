-- `cells::digit_run::take_seen` meets its contract. Assumes nothing.
use Rattle.std.proofs.Common.{sym, ap, ◌∙◌, arith}
use Rattle.reader.specs.Reading.{reading_for}
use Rattle.reader.specs.Answer.{Outcome}
use Rattle.cells.proofs.digit_run.Answers.{take_fits, step_taken, step_over}
use Rattle.cells.proofs.digit_run.take_seen.Goals as goal

pub overflow_add-all : goal.overflow_add-all
overflow_add-all c =
    let a = c.args in
    omega (arith, take_fits (reading_for a.seen a.reader) a.s.now a.seen a.reader a.over c.requires.0 c.requires.1, ap (λ (o : Outcome). o.passed) c.next-took.ensures)

pub returns-in-Some : goal.returns-in-Some
returns-in-Some c =
    let a = c.args in
    step_taken c.next-took.result a.reader a.over _ c.next-took.ensures _ (sym c.byte.ensures ∙ c.in-Some.is) _ c.count-behind.ensures

pub returns-in-None : goal.returns-in-None
returns-in-None c =
    let a = c.args in
    step_over c.next-took.result a.reader a.over _ c.next-took.ensures (sym c.byte.ensures ∙ c.in-None.is)

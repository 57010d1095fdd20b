-- `cells::digit_run::take_digits` meets its contract: its numbers stand for the digits taken so far (RunLoop). Assumes nothing.
use Rattle.std.proofs.Common.{◌+◌, ◌-◌, ◌<◌, ◌≤◌, length, sym, ◌∙◌, arith}
use Rattle.reader.specs.Reading.{reading_with}
use Rattle.cells.specs.Code.Steps.{Takes, Ends}
use Rattle.cells.proofs.value.Growing.{grown_in, grown_out}
use Rattle.cells.proofs.digit_run.Answers.{told_takes, told_ends}
use Rattle.cells.proofs.digit_run.RunLoop.{running_starts, running_on, running_room, running_outgrown, over_fits, running_over}
use Rattle.cells.proofs.digit_run.take_digits.Goals as goal
use Rattle.cells.proofs.digit_run.take_digits.Goals.{In-Taken, In-Over}

pub loop-c-init : goal.loop-c-init
loop-c-init c =
    let a = c.args in
    rw c.count-count.ensures (running_starts a.syntax a.s.now a.reader a.state c.requires.1)

pub step_at-step-requires : goal.step_at-step-requires
step_at-step-requires c =
    (c.requires.0, c.loop-c.invariant.stands, c.loop-c.invariant.known)

-- a step that takes a byte, and the room that it leaves
took : (c : In-Taken) → Takes (reading_with c.args.syntax) c.args.s.now c.args.reader c.args.state c.loop-c.at c.loop-c.count c.in-Taken.c c.in-Taken.to c.in-Taken.behind c.in-Taken.over
took c = told_takes _ _ _ _ _ _ _ c.step_at-step.ensures c.in-Taken.is

room : (c : In-Taken) → (c.loop-c.taken < length c.args.s.now)
    × ((c.loop-c.passed + c.in-Taken.over ≤ length c.args.s.now) × (length c.args.s.now - c.in-Taken.to < length c.args.s.now - c.loop-c.at))
room c = running_room _ _ _ _ c.requires.1 _ _ _ _ _ _ c.loop-c.invariant _ _ _ _ (took c)

pub returns-in_default : goal.returns-in_default
returns-in_default c =
    rw c.refused.ensures
    (running_outgrown _ _ _ _ c.requires.1 _ _ _ _ _ _ c.loop-c.invariant _ _ _ _ (took (goal.at.returns-in_default c).In-Taken) (grown_out _ (sym c.with_digit.ensures ∙ c.in_default.is)))

pub overflow_add-taken : goal.overflow_add-taken
overflow_add-taken c = omega (arith, (room (goal.at.overflow_add-taken c).In-Taken).0)

pub overflow_add-passed : goal.overflow_add-passed
overflow_add-passed c = omega (arith, (room (goal.at.overflow_add-passed c).In-Taken).1)

pub loop-c-smaller : goal.loop-c-smaller
loop-c-smaller c = (room (goal.at.loop-c-smaller c).In-Taken).1.1

pub loop-c-preserved : goal.loop-c-preserved
loop-c-preserved c =
    let grown = grown_in _ _ (sym c.with_digit.ensures ∙ c.in-Some.is) in
    rw c.stays_refused-refused.ensures
    (running_on _ _ _ _ c.requires.1 _ _ _ _ _ _ c.loop-c.invariant _ _ _ _ (took (goal.at.loop-c-preserved c).In-Taken) _ grown.0 (omega (arith, grown.0, grown.1)))

-- a step that takes none
ends : (c : In-Over) → Ends (reading_with c.args.syntax) c.args.s.now c.args.reader c.args.state c.loop-c.at c.loop-c.count c.in-Over.to c.in-Over.over
ends c = told_ends _ _ _ _ _ _ _ c.step_at-step.ensures c.in-Over.is

pub overflow_add-all : goal.overflow_add-all
overflow_add-all c =
    omega (arith, over_fits _ _ _ _ c.requires.1 _ _ _ _ _ _ c.loop-c.invariant _ _ (ends (goal.at.overflow_add-all c).In-Over))

pub returns-in-Over : goal.returns-in-Over
returns-in-Over c =
    let end = rw c.moved.ensures at c.with_count-end.ensures in
    rw (c.ended.ensures, end) (running_over _ _ _ _ c.requires.1 _ _ _ _ _ _ c.loop-c.invariant _ _ (ends (goal.at.returns-in-Over c).In-Over))

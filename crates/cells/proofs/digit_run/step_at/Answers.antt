-- `cells::digit_run::step_at` meets its contract, by where it stands (Answers). Assumes nothing.
use Rattle.std.proofs.Common.{sym, ◌∙◌, arith}
use borrow.Author.Tests.{eqb-false, not-true}
use Rattle.reader.proofs.state.Updates.{state_at, counted_tells, count_in_sum}
use Rattle.cells.proofs.digit_run.Answers.{passes_none_here, plain_taken, plain_over, end_over}
use Rattle.cells.proofs.digit_run.step_at.Goals as goal

pub returns-then-s-at : goal.returns-then-s-at
returns-then-s-at c =
    let a = c.args in
    end_over a.syntax a.s.now a.reader a.state a.at a.count c.requires.1 c.if-s-at.true

pub count_past-behind-requires : goal.count_past-behind-requires
count_past-behind-requires c =
    let a = c.args in
    let st = state_at a.state a.reader a.at a.count in
    omega (arith, c.if-s-at.false, counted_tells a.state a.reader a.at a.count c.requires.1.counted, count_in_sum st a.reader, c.requires.1.sums)

pub returns-then-char_is_digit_by_table : goal.returns-then-char_is_digit_by_table
returns-then-char_is_digit_by_table c =
    let a = c.args in
    let inside = c.if-s-at.false in
    plain_taken a.syntax a.s.now a.reader a.state a.at a.count c.requires.1 inside (passes_none_here a.syntax a.s.now a.reader a.state a.at a.count c.requires.1 a.refused c.if-s-at.false c.requires.2 _ (λ e. eqb-false _ _ (not-true _ e)) c.if-b-syntax.true) (sym c.char_is_digit_by_table.ensures ∙ c.if-char_is_digit_by_table.true) _ c.count_past-behind.ensures

pub returns-then-b-syntax : goal.returns-then-b-syntax
returns-then-b-syntax c =
    let a = c.args in
    let inside = c.if-s-at.false in
    plain_over a.syntax a.s.now a.reader a.state a.at a.count c.requires.1 inside (passes_none_here a.syntax a.s.now a.reader a.state a.at a.count c.requires.1 a.refused c.if-s-at.false c.requires.2 _ (λ e. eqb-false _ _ (not-true _ e)) c.if-b-syntax.true) (sym c.char_is_digit_by_table.ensures ∙ c.if-char_is_digit_by_table.false)

pub separator_step-requires : goal.separator_step-requires
separator_step-requires c =
    (c.requires.0, c.requires.1)

pub returns : goal.returns
returns c =
    c.separator_step.ensures

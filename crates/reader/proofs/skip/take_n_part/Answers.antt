-- `reader::skip::take_n_part` meets its contract: the part lies between the two cursors. Assumes nothing.
use Rattle.std.proofs.Common.{◌≡◌, ◌≤◌, length, Some, ap, ◌∙◌, arith}
use Rattle.reader.specs.Answer.{found_in}
use Rattle.reader.proofs.skip.Blocks.{part_within, part_of_block, part_of_none}
use Rattle.reader.proofs.skip.take_n_part.Goals as goal
use Rattle.reader.proofs.skip.take_n_part.Goals.{In-Ok-Some}

taken : (c : In-Ok-Some) → found_in c.take_n-answer.result.report.found ≡ Some c.in-Ok-Some.field-0-0
taken c = ap found_in c.in-Ok-Some.is ∙ rw c.in-Ok-Some.is at c.in-Ok-Some.field-0-is

within :
    (c : In-Ok-Some) →
    (c.args.state.cursor ≤ c.take_n-answer.result.state.cursor) × (c.take_n-answer.result.state.cursor ≤ length c.args.s.now)
within c = part_within _ _ _ _ _ _ c.take_n-answer.ensures _ (taken c)

pub slice_bounds-result-count : goal.slice_bounds-result-count
slice_bounds-result-count c = omega (arith, within (goal.at.slice_bounds-result-count c).In-Ok-Some)

pub slice_bounds-result-start : goal.slice_bounds-result-start
slice_bounds-result-start c = omega (arith, within (goal.at.slice_bounds-result-start c).In-Ok-Some)

pub slice_bounds-result-end : goal.slice_bounds-result-end
slice_bounds-result-end c = omega (arith, within (goal.at.slice_bounds-result-end c).In-Ok-Some)

pub returns-in-Ok-Some : goal.returns-in-Ok-Some
returns-in-Ok-Some c =
    part_of_block _ _ _ _ _ c.take_n-answer.ensures _ (taken (goal.at.returns-in-Ok-Some c).In-Ok-Some)

pub returns-in-Ok-None : goal.returns-in-Ok-None
returns-in-Ok-None c =
    part_of_none _ _ _ _ _ c.take_n-answer.ensures (ap found_in c.in-Ok-None.is ∙ rw c.in-Ok-None.is at c.in-Ok-None.field-0-is)

pub returns-in-Err : goal.returns-in-Err
returns-in-Err c =
    part_of_none _ _ _ _ _ c.take_n-answer.ensures (ap found_in c.in-Err.is)

-- `cells::digit_run::separator_step` meets its contract, by the answers of its calls (Answers). Assumes nothing.
use Rattle.std.proofs.Common.{true, false, sym, ap, ◌∙◌}
use Rattle.reader.specs.Reading.{reading_with}
use Rattle.cells.specs.DigitRun.{sees_digit}
use Rattle.cells.proofs.digit_run.Answers.{left_fits, sees_digit_lem, told_over, told_taken}
use Rattle.cells.proofs.digit_run.separator_step.Goals as goal

pub take_seen-requires : goal.take_seen-requires
take_seen-requires c =
    let a = c.args in
    let from = rw c.moved.ensures at c.with_count-here.ensures in
    left_fits a.syntax a.s.now a.reader a.state a.at a.count c.requires.1 c.requires.0 c.with_count-here.result from c.peek-seen.result c.peek-seen.ensures

pub returns-then-char_is_digit_by_table : goal.returns-then-char_is_digit_by_table
returns-then-char_is_digit_by_table c =
    let a = c.args in
    let from = rw c.moved.ensures at c.with_count-here.ensures in
    told_taken a.syntax a.s.now a.reader a.state a.at a.count c.requires.1 c.requires.0 c.with_count-here.result from c.peek-seen.result c.peek-seen.ensures (sees_digit_lem a.syntax _ _ (sym c.byte.ensures ∙ c.in-Some.is) _ c.char_is_digit_by_table.ensures true c.if-char_is_digit_by_table.true) _ c.take_seen.ensures

pub returns-else-char_is_digit_by_table : goal.returns-else-char_is_digit_by_table
returns-else-char_is_digit_by_table c =
    let a = c.args in
    let from = rw c.moved.ensures at c.with_count-here.ensures in
    told_over a.syntax a.s.now a.reader a.state a.at a.count c.requires.1 c.requires.0 c.with_count-here.result from c.peek-seen.result c.peek-seen.ensures (sees_digit_lem a.syntax _ _ (sym c.byte.ensures ∙ c.in-Some.is) _ c.char_is_digit_by_table.ensures false c.if-char_is_digit_by_table.false)

pub returns-in-None : goal.returns-in-None
returns-in-None c =
    let a = c.args in
    let from = rw c.moved.ensures at c.with_count-here.ensures in
    told_over a.syntax a.s.now a.reader a.state a.at a.count c.requires.1 c.requires.0 c.with_count-here.result from c.peek-seen.result c.peek-seen.ensures (ap (sees_digit (reading_with a.syntax)) (sym c.byte.ensures ∙ c.in-None.is))

-- `reader::column::stretch_totals` meets its contract: the digits are the first byte, if it is one, and those with a byte before
-- them. Assumes nothing.
use Rattle.std.proofs.Common.{sym, ◌∙◌, arith, eqb-true}
use borrow.Author.Tests.{eqb-false}
use Rattle.reader.proofs.pairs.Counts.{one_or_none}
use Rattle.reader.proofs.column.Cells.{empty_stretch, stretch_told}
use Rattle.reader.proofs.column.stretch_totals.Goals as goal

pub returns-then-is_empty : goal.returns-then-is_empty
returns-then-is_empty c =
    let a = c.args in
    empty_stretch a.syntax a.s.now c.default.result c.default.ensures (eqb-true _ 0 (sym c.is_empty.ensures ∙ c.if-is_empty.true))

pub returns : goal.returns
returns c =
    let a = c.args in
    let passes = rw c.passing_pairs.ensures at c.count_pairs-passed.ensures.0 in
    let counts = rw c.digit_pairs.ensures at c.count_pairs.ensures.0 in
    stretch_told a.syntax a.s.now c.count_pairs-passed.result c.count_pairs.result _ c.char_is_digit_by_table-begins.result passes counts
    (omega (arith, eqb-false _ 0 (sym c.is_empty.ensures ∙ c.if-is_empty.false))) c.char_is_digit_by_table-begins.ensures (rw (c.from.ensures ∙ one_or_none c.char_is_digit_by_table-begins.result))

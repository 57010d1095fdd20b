-- `reader::column::is_ordinary` meets its contract: an empty cell, or one told by its first byte and its last. Assumes nothing.
use Rattle.std.proofs.Common.{◌-◌, not, eqb, length, get_or, sym, ◌∙◌, eqb-true}
use mathlib.Core.Bool.{and-eq-true_iff}
use borrow.Author.Tests.{eqb-false, not-true}
use Rattle.reader.proofs.column.Cells.{empty_cell, ordinary_cell}
use Rattle.reader.proofs.column.is_ordinary.Goals as goal

pub returns-then-is_empty : goal.returns-then-is_empty
returns-then-is_empty c o = let a = c.args in empty_cell a.syntax a.s.now (eqb-true _ 0 (sym c.is_empty.ensures ∙ c.if-is_empty.true))

pub returns : goal.returns
returns c o =
    let a = c.args in
    let held = (and-eq-true_iff c.char_is_digit_by_table.result (not (eqb (get_or a.s.now (length a.s.now - 1) 0) a.syntax.separator))).0 o in
    ordinary_cell a.syntax a.s.now (sym c.char_is_digit_by_table.ensures ∙ held.0) (eqb-false _ _ (not-true _ held.1))

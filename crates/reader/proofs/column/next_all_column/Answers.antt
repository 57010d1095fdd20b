-- `reader::column::next_all_column` meets its contract: the reader's own refusal first, and then the sums. Assumes nothing.
use Rattle.std.proofs.Common.{sym, ap, ◌∙◌}
use Rattle.reader.specs.declared.passing.Syntax.{Syntax}
use Rattle.reader.specs.Reading.{reading_with}
use Rattle.reader.specs.Column.{column_of, column_outcome_of}
use Rattle.reader.proofs.state.Refusals.{passed_on}
use Rattle.reader.proofs.column.Sums.{column_read, column_refused}
use Rattle.reader.proofs.column.next_all_column.Goals as goal

pub column_totals-requires : goal.column_totals-requires
column_totals-requires c = rw c.fresh.ensures at (sym c.in_ok-admit.ensures)

pub returns : goal.returns
unfolding reading_with
returns c =
    let a = c.args in
    let m = reading_with c.syntax_of-syntax.result in
    let clear = rw c.fresh.ensures at (sym c.in_ok-admit.ensures) in
    column_read m a.format a.reader a.s.now a.ends.now c.column_totals.result clear c.column_totals.ensures
    ∙ ap (λ (y : Syntax). column_of (reading_with y) a.format a.reader a.s.now a.ends.now) c.syntax_of-syntax.ensures

pub returns-in_err-admit : goal.returns-in_err-admit
unfolding reading_with
returns-in_err-admit c =
    let a = c.args in
    let m = reading_with c.syntax_of-syntax.result in
    let number = rw c.fresh.ensures at c.in_err-admit.ensures in
    ap column_outcome_of (passed_on _ _ c.from_residual.ensures.1)
    ∙ column_refused m a.format a.reader a.s.now a.ends.now _ number
    ∙ ap (λ (y : Syntax). column_of (reading_with y) a.format a.reader a.s.now a.ends.now) c.syntax_of-syntax.ensures

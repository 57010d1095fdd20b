-- `cells::digit_run::digit_run` meets its contract: refusals first, and then the steps. Assumes nothing.
use Rattle.std.proofs.Common.{sym, ap, ◌∙◌}
use Rattle.reader.specs.declared.passing.Syntax.{Syntax}
use Rattle.reader.specs.Reading.{syntax_for}
use Rattle.reader.specs.ZeroSkip.{skip_refusal}
use Rattle.cells.proofs.digit_run.Refused.{run_refused}
use Rattle.cells.proofs.digit_run.digit_run.Goals as goal

pub take_digits-requires : goal.take_digits-requires
take_digits-requires c =
    let a = c.args in
    (c.syntax_for.ensures, ap (λ (x : Syntax). skip_refusal x.flags a.s.now a.state a.reader) c.syntax_for.ensures ∙ sym c.in-Ok.ensures)

pub returns-in-Ok : goal.returns-in-Ok
returns-in-Ok c = rw c.syntax_for.ensures at c.take_digits.ensures

pub returns-in-Err : goal.returns-in-Err
returns-in-Err c =
    let a = c.args in
    rw c.refused.ensures
    (run_refused (syntax_for a.state a.reader) a.s.now a.state a.reader _ c.in-Err.ensures)

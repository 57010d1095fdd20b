-- `export::digit_run::digit_run_any` meets its contract. Assumes nothing.
use Rattle.std.proofs.Common.{refl, ap, ◌∙◌, rules}
use Rattle.cells.specs.DigitRun.{error_number}
use Rattle.export.specs.Calls.{digit_run_by}
use Rattle.export.specs.Code.Reply.{value_reply, run_told}
use Rattle.export.proofs.reply.Words.{value_law, served_as}
use Rattle.export.proofs.digit_run.digit_run_any.Goals as goal

pub returns : goal.returns
unfolding digit_run_by value_reply
returns c =
    let a = c.args in
    served_as run_told error_number value_reply a.reader a.state.now a.answer.now _ _ refl c.served.ensures
    (λ r x says. value_law x ∙ ap value_reply (search rules))

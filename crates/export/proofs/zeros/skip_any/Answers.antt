-- `export::zeros::skip_any` meets its contract. Assumes nothing.
use Rattle.std.proofs.Common.{refl, ap, ◌∙◌, rules}
use Rattle.reader.specs.Answer.{number_of}
use Rattle.export.specs.Calls.{skipped_by}
use Rattle.export.specs.Code.Reply.{zeros_reply, zeros_told}
use Rattle.export.proofs.reply.Words.{zeros_law, served_as}
use Rattle.export.proofs.zeros.skip_any.Goals as goal

pub returns : goal.returns
unfolding skipped_by zeros_reply
returns c =
    let a = c.args in
    served_as zeros_told number_of zeros_reply a.reader a.state.now a.answer.now _ _ refl c.served.ensures
    (λ r x says. zeros_law x ∙ ap zeros_reply (search rules))

-- `export::read::read_value_any` meets its contract. Assumes nothing.
use Rattle.std.proofs.Common.{refl, ap, ◌∙◌, rules}
use Rattle.reader.specs.Answer.{number_of}
use Rattle.export.specs.Calls.{read_by}
use Rattle.export.specs.Code.Reply.{read_reply, read_told}
use Rattle.export.proofs.reply.Words.{read_law, served_as}
use Rattle.export.proofs.read.read_value_any.Goals as goal

pub returns : goal.returns
unfolding read_by read_reply
returns c =
    let a = c.args in
    served_as read_told number_of read_reply a.reader a.state.now a.answer.now _ _ refl c.served.ensures
    (λ r x says. read_law x ∙ ap read_reply (search rules))

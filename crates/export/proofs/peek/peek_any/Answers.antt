-- `export::peek::peek_any` meets its contract. Assumes nothing.
use Rattle.std.proofs.Common.{refl, ap, ◌∙◌, rules}
use Rattle.reader.specs.Answer.{number_of}
use Rattle.export.specs.Calls.{peeked_by}
use Rattle.export.specs.Code.Reply.{byte_reply, byte_told}
use Rattle.export.proofs.reply.Words.{byte_law, served_as}
use Rattle.export.proofs.peek.peek_any.Goals as goal

pub returns : goal.returns
unfolding peeked_by byte_reply
returns c =
    let a = c.args in
    served_as byte_told number_of byte_reply a.reader a.state.now a.answer.now _ _ refl c.served.ensures
    (λ r x says. byte_law x ∙ ap byte_reply (search rules))

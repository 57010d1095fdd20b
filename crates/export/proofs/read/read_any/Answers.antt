-- `export::read::read_any` meets its contract. Assumes nothing.
use Rattle.std.proofs.Common.{◌≡◌, refl, ap, ◌∙◌, rules}
use Rattle.word.specs.ByteSet.{member}
use Rattle.reader.specs.Answer.{number_of, read_outcome_of}
use Rattle.reader.specs.Reading.{reading_for}
use Rattle.reader.specs.Calls.{read_of}
use Rattle.export.specs.State.{state_in}
use Rattle.export.specs.Calls.{read_by}
use Rattle.export.specs.Code.Reply.{read_reply, read_told}
use Rattle.export.proofs.reply.Words.{read_law, served_as}
use Rattle.export.proofs.read.read_any.Goals as goal

pub returns : goal.returns
unfolding read_by read_reply
returns c =
    let a = c.args in
    let st = state_in a.state.now in
    served_as read_told number_of read_reply a.reader a.state.now a.answer.now _ _ refl c.served.ensures
    (λ r x says.
    let told : read_outcome_of x ≡ read_of (reading_for st r) a.s.now st r (member c.set_in-wanted.result) = search rules in
    read_law x ∙ ap read_reply (rw c.set_in-wanted.ensures at told))

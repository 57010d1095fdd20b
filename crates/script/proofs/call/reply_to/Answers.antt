-- `script::call::reply_to` meets its contract. Assumes nothing.
use mathlib.Core.Path.{◌∙◌, ap}
use Rattle.reader.specs.Answer.{ReadOutcome}
use Rattle.script.specs.Reply.{outcome_reply, skip_reply, block_reply, reply_of}
use Rattle.script.proofs.call.Replies.{seen_reply, read_reply, zeros_reply, taken_reply}
use Rattle.script.proofs.call.reply_to.Goals as goal

pub returns-in-Peek : goal.returns-in-Peek
unfolding reply_of
returns-in-Peek c = c.replied.ensures ∙ seen_reply c.peek.result ∙ ap outcome_reply c.peek.ensures ∙ rw c.in-Peek.is

pub returns-in-Take : goal.returns-in-Take
unfolding reply_of
returns-in-Take c = c.replied-in-Take.ensures ∙ seen_reply c.next.result ∙ ap outcome_reply c.next.ensures ∙ rw c.in-Take.is

pub returns-in-Read : goal.returns-in-Read
unfolding reply_of
returns-in-Read c =
    c.replied-in-Read.ensures ∙ read_reply c.read_if_value_cased.result
    ∙ ap (λ (o : ReadOutcome). outcome_reply o.outcome) c.read_if_value_cased.ensures
    ∙ rw c.in-Read.is

pub returns-in-ZeroSkip : goal.returns-in-ZeroSkip
unfolding reply_of
returns-in-ZeroSkip c = c.replied-in-ZeroSkip.ensures ∙ zeros_reply c.skip_zeros.result ∙ ap skip_reply c.skip_zeros.ensures ∙ rw c.in-ZeroSkip.is

pub returns-in-Block : goal.returns-in-Block
unfolding reply_of
returns-in-Block c = c.replied-in-Block.ensures ∙ taken_reply c.take_n.result ∙ ap block_reply c.take_n.ensures ∙ rw c.in-Block.is

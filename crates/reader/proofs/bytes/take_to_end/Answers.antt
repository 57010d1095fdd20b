-- `reader::bytes::take_to_end` meets its contract: what it tells is what the struct tells, whose state is the definition's. Assumes nothing.
use Rattle.std.proofs.Common.{◌≡◌, ℕ, Option, Result, ap, subst}
use Rattle.reader.specs.declared.answer.Report.{Report}
use Rattle.reader.specs.declared.state.Refusal.{Refusal}
use Rattle.reader.specs.declared.state.State.{State}
use Rattle.reader.specs.Answer.{Outcome, outcome_of}
use Rattle.reader.specs.Reading.{syntax_of, syntax_on}
use Rattle.reader.specs.Bytes.{whole_outcome}
use Rattle.reader.proofs.bytes.take_to_end.Goals as goal

of_state : (report : Report (Result (Option ℕ) Refusal)) (st : State) (o : Outcome) → outcome_of (record { report = report; state = st }) ≡ o
    → outcome_of (record { report = report; state = o.state }) ≡ o
of_state report st o e =
    subst (λ (x : State). outcome_of (record { report = report; state = x }) ≡ o) (ap (λ (y : Outcome). y.state) e) e

pub returns : goal.returns
unfolding syntax_of syntax_on
returns c =
    let a = c.args in
    of_state c.next_all.result c.next_all.new.self.state (whole_outcome a.s.now a.format a.reader) (rw c.new-bytes.ensures at c.next_all.ensures).0

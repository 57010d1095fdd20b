-- What is told of a plain call is what its definition says. Assumes nothing.
use Rattle.std.specs.Prelude.{ℕ, List, Option, Some, None}
use Rattle.std.proofs.Common.{◌≡◌, ◌∙◌, ap}
use Rattle.reader.specs.declared.state.Reader.{Reader}
use Rattle.reader.specs.declared.noskip.Answer.{Answer}
use Rattle.reader.specs.State.{reader_named}
use Rattle.reader.specs.Plain.{PlainOutcome, plain_outcome_of}
use Rattle.export.specs.State.{by_reader}
use Rattle.export.specs.Plain.{plain_refused, plain_words}
use Rattle.export.specs.Code.Plain.{PlainBy, IsPlainServed}

outcome_due : (who : Option Reader) (at : ℕ) (answers : Reader → Answer → Type 0) (of : Reader → PlainOutcome)
    → ((r : Reader) (a : Answer) → answers r a → plain_outcome_of a ≡ of r)
    → (o : PlainOutcome) → PlainBy who answers at o → o ≡ by_reader who (plain_refused 19 at) of
outcome_due None at answers of says o by = by
outcome_due (Some r) at answers of says o by = by.2 ∙ says r by.0 by.1

pub plain_served_as : (n at : ℕ) (old : List ℕ) (of : Reader → PlainOutcome)
    → {answers : Reader → Answer → Type 0} {code cursor : ℕ} {answer : List ℕ} → IsPlainServed answers n at old code cursor answer
    → ((r : Reader) (a : Answer) → answers r a → plain_outcome_of a ≡ of r)
    → record {
      number : code ≡ (by_reader (reader_named n) (plain_refused 19 at) of).refusal;
      moved : cursor ≡ (by_reader (reader_named n) (plain_refused 19 at) of).cursor;
      written : answer ≡ plain_words old (by_reader (reader_named n) (plain_refused 19 at) of);
    }
plain_served_as n at old of call says =
    let same = outcome_due (reader_named n) at _ of says call.outcome call.by in
    record {
      number = call.returned ∙ ap (λ (o : PlainOutcome). o.refusal) same;
      moved = call.moved ∙ ap (λ (o : PlainOutcome). o.cursor) same;
      written = call.written ∙ ap (plain_words old) same;
    }

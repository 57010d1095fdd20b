-- A call of the plain reader at a caller's cursor (src/plain.rt). Assumes nothing.
use Rattle.std.specs.Prelude.{◌≡◌, ℕ, List, Option, Some, None}
use Rattle.reader.specs.declared.state.Reader.{Reader}
use Rattle.reader.specs.declared.noskip.Answer.{Answer}
use Rattle.reader.specs.State.{reader_named}
use Rattle.reader.specs.Plain.{PlainOutcome, plain_outcome_of}
use Rattle.export.specs.Plain.{plain_refused, plain_words}

-- what the reader that is named may answer, and 19 where none is
abbrev pub PlainBy : Option Reader → (Reader → Answer → Type 0) → ℕ → PlainOutcome → Type 0
PlainBy None answers at o = o ≡ plain_refused 19 at
PlainBy (Some r) answers at o = (a : Answer) × answers r a × (o ≡ plain_outcome_of a)

-- what is returned and written of a call by the reader n at a cursor, where the answer had `old`
pub record IsPlainServed (answers : Reader → Answer → Type 0) (n at : ℕ) (old : List ℕ) (code cursor : ℕ) (answer : List ℕ) : Type 0 where
  pub outcome : PlainOutcome
  pub by : PlainBy (reader_named n) answers at outcome
  pub returned : code ≡ outcome.refusal
  pub moved : cursor ≡ outcome.cursor
  pub written : answer ≡ plain_words old outcome

-- What a reader answered, on the way to the caller's words (src/reply.rt). Assumes nothing.
use Rattle.std.specs.Prelude.{◌≡◌, ℕ, List, [], ◌∷◌, Option, Some, None, Result, Ok, Err, ok_or, slice_index}
use Rattle.reader.specs.declared.state.State.{State}
use Rattle.reader.specs.declared.state.Reader.{Reader}
use Rattle.reader.specs.declared.state.UnknownReader.{UnknownReader}
use Rattle.reader.specs.declared.answer.Answer.{Answer}
use Rattle.reader.specs.declared.answer.Read.{Read}
use Rattle.reader.specs.declared.answer.Read.TheVariants as read
use Rattle.reader.specs.Answer.{Outcome, ReadOutcome, SkipOutcome, BlockOutcome}
use Rattle.cells.specs.DigitRun.{RunOutcome}
use Rattle.export.specs.declared.reply.Told.{Told}
use Rattle.export.specs.declared.reply.Reply.{Reply}
use Rattle.export.specs.State.{state_in, state_words, reader_on}
use Rattle.export.specs.Answer.{is_there, or_old, how_read, block_place}

-- what is told of a byte or the place of a block, of a conditional read, of zeros, and of a run's value
abbrev pub byte_told : Option ℕ → Told
byte_told b = record { how = is_there b; value = b }

abbrev pub read_told : Read → Told
read_told (read.Taken b) = record { how = 1; value = Some b }
read_told (read.Declined b) = record { how = 2; value = Some b }
read_told read.End = record { how = 0; value = None }

abbrev pub zeros_told : ℕ → Told
zeros_told n = record { how = 0; value = Some n }

abbrev pub run_told : ℕ → Told
run_told v = record { how = 1; value = Some v }

-- where nothing is found
abbrev pub nothing_told : Told
nothing_told = record { how = 0; value = None }

-- of what a call found
abbrev pub told_in : {A E : Type 0} → (A → Told) → Result A E → Told
told_in told (Ok a) = told a
told_in told (Err e) = nothing_told

abbrev pub number_in : {A E : Type 0} → (E → ℕ) → Result A E → ℕ
number_in number (Ok a) = 0
number_in number (Err e) = number e

-- `old` is what the caller has in the answer
abbrev pub told_words : List ℕ → Told → ℕ → ℕ → List ℕ
told_words old t taken passed = t.how ∷ or_old (slice_index old 1) t.value ∷ taken ∷ passed ∷ []

abbrev pub reply_words : List ℕ → Reply → List ℕ
reply_words old r = told_words old r.told r.taken r.passed

-- an answer as a reply
abbrev pub reply_of : {A E : Type 0} → (A → Told) → (E → ℕ) → Answer (Result A E) → Reply
reply_of told number a =
    record { number = number_in number a.report.found; state = a.state; told = told_in told a.report.found; taken = a.report.taken; passed = a.report.passed }

-- of every refused call
abbrev pub refused_reply : ℕ → State → Reply
refused_reply number st = record { number = number; state = st; told = nothing_told; taken = 0; passed = 0 }

-- the reply to what the reader that is named may answer, and 19 where none is
abbrev pub ReplyBy : {A E : Type 0} → (A → Told) → (E → ℕ) → (Reader → Answer (Result A E) → Type 0) → Result Reader UnknownReader → State → Reply → Type 0
ReplyBy told number answers (Ok r) st reply = (a : _) × answers r a × (reply ≡ reply_of told number a)
ReplyBy told number answers (Err e) st reply = reply ≡ refused_reply 19 st

-- What is returned and written of a call by the reader n on the words w, where the answer had `old`.
pub record IsServed {A E : Type 0} (told : A → Told) (number : E → ℕ) (answers : Reader → Answer (Result A E) → Type 0)
    (n : ℕ) (w old : List ℕ) (code : ℕ) (state answer : List ℕ) : Type 0 where
  pub reply : Reply
  pub by : ReplyBy told number answers (ok_or (reader_on n (slice_index w 7)) (record { 0 = n })) (state_in w) reply
  pub returned : code ≡ reply.number
  pub moved : state ≡ state_words w reply.state
  pub written : answer ≡ reply_words old reply

-- the reply of each call's outcome
unfoldable pub byte_reply : Outcome → Reply
byte_reply o =
    record { number = o.refusal; state = o.state; told = record { how = is_there o.byte; value = o.byte }; taken = o.taken; passed = o.passed }

unfoldable pub read_reply : ReadOutcome → Reply
read_reply o =
    record { number = o.outcome.refusal; state = o.outcome.state; told = record { how = how_read o.outcome.byte o.seen; value = o.seen }; taken = o.outcome.taken; passed = o.outcome.passed }

unfoldable pub zeros_reply : SkipOutcome → Reply
zeros_reply o =
    record { number = o.refusal; state = o.state; told = record { how = 0; value = o.zeros }; taken = o.taken; passed = o.passed }

unfoldable pub block_reply : ℕ → BlockOutcome → Reply
block_reply cursor o =
    record { number = o.refusal; state = o.state; told = record { how = is_there o.block; value = block_place cursor o.block }; taken = o.taken; passed = o.passed }

unfoldable pub value_reply : RunOutcome → Reply
value_reply o =
    record { number = o.refusal; state = o.state; told = record { how = is_there o.value; value = o.value }; taken = o.taken; passed = o.passed }

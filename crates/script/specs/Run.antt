-- A run of a call script, and what it answers to one record (document 01, "Call script"). Assumes nothing.
use Rattle.std.specs.Prelude.{ℕ, ◌≡◌, Bool, true, false, cond, List, [], ◌∷◌, ◌++◌, nat_lt, length, take, Result, Ok, Err, Option, Some, None}
use Rattle.reader.specs.declared.state.Reader.{Reader}
use Rattle.reader.specs.declared.state.State.{State}
use Rattle.reader.specs.State.{reader_named}
use Rattle.reader.specs.Open.{open_of}
use Rattle.reader.specs.Reading.{reading_on}
use Rattle.reader.specs.History.{answer_to}
use Rattle.script.specs.declared.record.Call.{Call}
use Rattle.script.specs.declared.record.Record.{Record}
use Rattle.script.specs.declared.record.Record.TheVariants as record'
use Rattle.script.specs.declared.refusal.Refusal.{Refusal}
use Rattle.script.specs.declared.refusal.Refusal.TheVariants as refusal
use Rattle.script.specs.declared.call.Reply.{Reply}
use Rattle.script.specs.declared.run.Stage.{Stage}
use Rattle.script.specs.declared.run.Stage.TheVariants as stage
use Rattle.script.specs.Decimal.{decimal}
use Rattle.script.specs.declared.run.Response.{Response as Response'}
use Rattle.script.specs.Line.{line_of, Wrote}
use Rattle.script.specs.Reply.{call_by, reply_of, reply_line}

-- A run gathers text until an open is accepted; from then on calls go over the text; a refusal of 19 to 22 stops it.
pub data Run : Type 0 where
  gathering : List ℕ → Run
  opened : List ℕ → State → Run
  stopped : Run

-- how far a run is, where the text lies at the start of a buffer
abbrev pub run_in : List ℕ → Stage → Run
run_in buffer (stage.Gathering n) = gathering (take n buffer)
run_in buffer (stage.Opened n st) = opened (take n buffer) st
run_in buffer stage.Stopped = stopped

abbrev pub is_stopped : Stage → Bool
is_stopped (stage.Gathering n) = false
is_stopped (stage.Opened n st) = false
is_stopped stage.Stopped = true

-- "What the office log shows"
abbrev pub refusal_number : Refusal → ℕ
refusal_number refusal.Unknown = 19
refusal_number refusal.CutShort = 20
refusal_number refusal.OutOfTurn = 21
refusal_number refusal.TextFull = 22

-- what a record is answered with: the bytes printed, and the run that goes on
pub record Response : Type 0 where
  pub line : List ℕ
  pub run : Run

-- "Refusals 19 to 22 print `!`number and stop."
abbrev pub stops : Refusal → Response
stops refusal = record { line = line_of (33 ∷ decimal (refusal_number refusal)) []; run = stopped }

abbrev pub silent : Run → Response
silent run = record { line = []; run = run }

-- "Text holds up to 4,096 bytes." "Text prints nothing."
abbrev pub most_text : ℕ
most_text = 4096

abbrev pub add_text : List ℕ → ℕ → Response
add_text text b = cond (nat_lt (length text) most_text) (silent (gathering (text ++ (b ∷ [])))) (stops refusal.TextFull)

-- "Open prints `1` and the answer." Only an open that gives a state is accepted.
abbrev pub after_open : List ℕ → Option State → Run
after_open text None = gathering text
after_open text (Some st) = opened text st

unfoldable pub open_text : List ℕ → ℕ → ℕ → Response
open_text text lo hi = record { line = line_of (decimal 1) (decimal (open_of lo hi).refusal ∷ []); run = after_open text (open_of lo hi).state }

-- a call prints its line, and the text stays
abbrev pub answer_call : List ℕ → Call → Reply → Response
answer_call text call reply = record { line = reply_line call reply; run = opened text reply.state }

unfoldable pub call_response : List ℕ → State → Reader → Call → Response
call_response text st r call = answer_call text call (reply_of (answer_to reading_on text st (call_by call r)))

-- a byte above 3 names no reader, and is refused before the turn is asked
abbrev pub gathering_call : Option Reader → Response
gathering_call None = stops refusal.Unknown
gathering_call (Some r) = stops refusal.OutOfTurn

abbrev pub opened_call : List ℕ → State → Call → Option Reader → Response
opened_call text st call None = stops refusal.Unknown
opened_call text st call (Some r) = call_response text st r call

-- "Script order: kind, length, reader byte, turn, full."
abbrev pub gathering_response : List ℕ → Record → Response
gathering_response text (record'.Call by call) = gathering_call (reader_named by)
gathering_response text (record'.Text b) = add_text text b
gathering_response text (record'.Open lo hi) = open_text text lo hi

abbrev pub opened_response : List ℕ → State → Record → Response
opened_response text st (record'.Call by call) = opened_call text st call (reader_named by)
opened_response text st (record'.Text b) = stops refusal.OutOfTurn
opened_response text st (record'.Open lo hi) = stops refusal.OutOfTurn

-- nothing answers what stands behind a stop
abbrev pub respond : Run → Result Record Refusal → Response
respond (gathering text) (Ok asked) = gathering_response text asked
respond (gathering text) (Err refused) = stops refused
respond (opened text st) (Ok asked) = opened_response text st asked
respond (opened text st) (Err refused) = stops refused
respond stopped asked = silent stopped

-- What the code answered is this response: its line is written behind the `at` bytes that were written, and the run that goes on is as
-- the stage and the text in the buffer say.
pub record Responds (response : Response) (buffer before : List ℕ) (at : ℕ) (after : List ℕ) (answer : Response') : Type 0 where
  pub wrote : Wrote before at response.line after answer.end
  pub goes_on : run_in buffer answer.stage ≡ response.run

-- the same of code that may refuse: nothing is written then, and the response is that the run stops
abbrev pub Allows : Response → List ℕ → List ℕ → ℕ → List ℕ → Result Response' Refusal → Type 0
Allows response buffer before at after (Ok answer) = Responds response buffer before at after answer
Allows response buffer before at after (Err refused) = (after ≡ before) × (response ≡ stops refused)

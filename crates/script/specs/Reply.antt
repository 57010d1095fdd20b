-- The line that a call prints (document 01, "Call script"), from the answer that the reader's contracts promise. Assumes nothing.
use Rattle.std.specs.Prelude.{ℕ, cond, List, [], ◌∷◌, ◌==◌, Option, Some, None, Result, Ok, Err}
use Rattle.reader.specs.declared.state.Reader.{Reader}
use Rattle.reader.specs.declared.state.Refusal.{Refusal}
use Rattle.reader.specs.declared.answer.Answer.{Answer}
use Rattle.reader.specs.declared.answer.Read.{Read}
use Rattle.reader.specs.declared.answer.Read.TheVariants as read
use Rattle.reader.specs.Answer.{number_of, Outcome, SkipOutcome, BlockOutcome}
use Rattle.reader.specs.History.{Answered, peek_answered, take_answered, read_answered, skip_answered, block_answered}
use Rattle.reader.specs.History as history
use Rattle.script.specs.declared.record.Call.{Call}
use Rattle.script.specs.declared.record.Call.TheVariants as call
use Rattle.script.specs.declared.call.Shown.{Shown}
use Rattle.script.specs.declared.call.Shown.TheVariants as shown
use Rattle.script.specs.declared.call.Reply.{Reply}
use Rattle.script.specs.Decimal.{decimal}
use Rattle.script.specs.Line.{line_of}

-- the call that a record makes by a reader; a read has the one value in its set
abbrev pub call_by : Call → Reader → history.Call
call_by call.Peek r = history.peek_by r
call_by call.Take r = history.take_by r
call_by (call.Read value) r = history.read_if_by r (λ b. b == value)
call_by call.ZeroSkip r = history.zero_skip_by r
call_by (call.Block n) r = history.block_by r n

-- "The byte is decimal; it is `-` at the end, for a declined read and for a block, and the number of zeros for kind 5. A block
-- answering none prints `6 none`." Document 02 keeps it so of a read: "The script still prints `-` for both."
abbrev pub number_shown : Option ℕ → Shown
number_shown None = shown.Dash
number_shown (Some n) = shown.Number n

abbrev pub block_shown : Option ℕ → Shown
block_shown None = shown.NoBlock
block_shown (Some n) = shown.Dash

-- a refused call shows its number
abbrev pub or_refused : ℕ → Shown → Shown
or_refused number answer = cond (number == 0) answer (shown.Refused number)

-- the same of what a read did, and of a count of zeros
abbrev pub read_shown : Read → Shown
read_shown (read.Taken b) = shown.Number b
read_shown (read.Declined b) = shown.Dash
read_shown read.End = shown.Dash

abbrev pub zeros_shown : ℕ → Shown
zeros_shown n = shown.Number n

-- of what a call found, or why it is refused
abbrev pub shown_in : {A : Type 0} → (A → Shown) → Result A Refusal → Shown
shown_in shows (Ok found) = shows found
shown_in shows (Err e) = shown.Refused (number_of e)

abbrev pub replied_as : {A : Type 0} → (A → Shown) → Answer (Result A Refusal) → Reply
replied_as shows a =
    record { shown = shown_in shows a.report.found; taken = a.report.taken; passed = a.report.passed; state = a.state }

unfoldable pub outcome_reply : Outcome → Reply
outcome_reply o =
    record { shown = or_refused o.refusal (number_shown o.byte); taken = o.taken; passed = o.passed; state = o.state }

unfoldable pub skip_reply : SkipOutcome → Reply
skip_reply o =
    record { shown = or_refused o.refusal (number_shown o.zeros); taken = o.taken; passed = o.passed; state = o.state }

unfoldable pub block_reply : BlockOutcome → Reply
block_reply o =
    record { shown = or_refused o.refusal (block_shown o.block); taken = o.taken; passed = o.passed; state = o.state }

unfoldable pub reply_of : Answered → Reply
reply_of (peek_answered r o) = outcome_reply o
reply_of (take_answered r o) = outcome_reply o
reply_of (read_answered r o) = outcome_reply o.outcome
reply_of (skip_answered r o reads) = skip_reply o
reply_of (block_answered r o part) = block_reply o

-- "2 peek, 3 take, 5 zero skip", 4 read, 6 block
abbrev pub call_number : Call → ℕ
call_number call.Peek = 2
call_number call.Take = 3
call_number (call.Read value) = 4
call_number call.ZeroSkip = 5
call_number (call.Block n) = 6

-- "Calls print kind, byte, cursor, taken, passed." `-` is 45, `none` 110 111 110 101, and `!` 33.
abbrev pub fields_with : List ℕ → Reply → List (List ℕ)
fields_with field reply =
    field ∷ decimal reply.state.cursor ∷ decimal reply.taken ∷ decimal reply.passed ∷ []

abbrev pub fields_of : Shown → Reply → List (List ℕ)
fields_of (shown.Number n) reply = fields_with (decimal n) reply
fields_of shown.Dash reply = fields_with (45 ∷ []) reply
fields_of shown.NoBlock reply = (110 ∷ 111 ∷ 110 ∷ 101 ∷ []) ∷ []
fields_of (shown.Refused number) reply = (33 ∷ decimal number) ∷ []

unfoldable pub reply_line : Call → Reply → List ℕ
reply_line call reply = line_of (decimal (call_number call)) (fields_of reply.shown reply)

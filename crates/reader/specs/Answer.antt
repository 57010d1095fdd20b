-- What the calls' answers say in document 01's terms: its number of a refusal, the byte, and how many bytes were taken and separators
-- passed. The contracts use these. Assumes nothing.
use Rattle.std.specs.Prelude.{ℕ, Option, Some, None, Result, Ok, Err}
use Rattle.reader.specs.declared.state.State.{State}
use Rattle.reader.specs.declared.state.Refusal.{Refusal}
use Rattle.reader.specs.declared.state.Refusal.TheVariants.{CursorPastEnd, CountsExceedCursor, SpecialReader, ConsecutiveInteger, ConsecutiveFraction, ConsecutiveExponent}
use Rattle.reader.specs.declared.answer.Answer.{Answer}
use Rattle.reader.specs.declared.answer.Read.{Read}
use Rattle.reader.specs.declared.answer.Read.TheVariants as read

-- "What the office log shows"
abbrev pub number_of : Refusal → ℕ
number_of CursorPastEnd = 16
number_of CountsExceedCursor = 17
number_of SpecialReader = 18
number_of ConsecutiveInteger = 12
number_of ConsecutiveFraction = 13
number_of ConsecutiveExponent = 14

-- the refusal's number, and 0 of a call that is not refused
abbrev pub refusal_in : {A : Type 0} → Result A Refusal → ℕ
refusal_in (Ok a) = 0
refusal_in (Err e) = number_of e

-- what a call that is not refused answers, and what it found if anything
abbrev pub answer_in : {A : Type 0} → Result A Refusal → Option A
answer_in (Ok a) = Some a
answer_in (Err e) = None

abbrev pub found_in : {A : Type 0} → Result (Option A) Refusal → Option A
found_in (Ok found) = found
found_in (Err e) = None

-- the outcome of a call: the refusal's number or 0, the byte answered if any, taken, passed, and the state returned
pub record Outcome : Type 0 where
  pub refusal : ℕ
  pub byte : Option ℕ
  pub taken : ℕ
  pub passed : ℕ
  pub state : State

-- a peek's and a take's answer: a byte, the end, or a refusal
abbrev pub outcome_of : Answer (Result (Option ℕ) Refusal) → Outcome
outcome_of a =
    record { refusal = refusal_in a.report.found; byte = found_in a.report.found; taken = a.report.taken; passed = a.report.passed; state = a.state }

-- a conditional read's answer: the byte taken, declined with the byte seen, the end, or a refusal
abbrev pub read_byte : Result Read Refusal → Option ℕ
read_byte (Ok (read.Taken b)) = Some b
read_byte (Ok (read.Declined b)) = None
read_byte (Ok read.End) = None
read_byte (Err e) = None

abbrev pub read_seen : Result Read Refusal → Option ℕ
read_seen (Ok (read.Taken b)) = Some b
read_seen (Ok (read.Declined b)) = Some b
read_seen (Ok read.End) = None
read_seen (Err e) = None

-- A conditional read's outcome has the byte that its peek saw beside what it did: taken where there is a byte taken, declined where there
-- is only a byte seen, the end where there is none.
pub record ReadOutcome : Type 0 where
  pub outcome : Outcome
  pub seen : Option ℕ

abbrev pub read_outcome_of : Answer (Result Read Refusal) → ReadOutcome
read_outcome_of a =
    record {
      outcome = record { refusal = refusal_in a.report.found; byte = read_byte a.report.found; taken = a.report.taken; passed = a.report.passed; state = a.state };
      seen = read_seen a.report.found;
    }

-- what `current_count` answers: the count shown, or a refusal
pub record CountOutcome : Type 0 where
  pub refusal : ℕ
  pub count : Option ℕ

abbrev pub count_outcome_of : Result ℕ Refusal → CountOutcome
count_outcome_of r = record { refusal = refusal_in r; count = answer_in r }

-- a zero skip's outcome has, in place of a byte, how many zeros it took; none where it is refused
pub record SkipOutcome : Type 0 where
  pub refusal : ℕ
  pub zeros : Option ℕ
  pub taken : ℕ
  pub passed : ℕ
  pub state : State

abbrev pub skip_outcome_of : Answer (Result ℕ Refusal) → SkipOutcome
skip_outcome_of a =
    record { refusal = refusal_in a.report.found; zeros = answer_in a.report.found; taken = a.report.taken; passed = a.report.passed; state = a.state }

-- a block take's outcome: how many bytes the block has; none where the reader answers none, and where it is refused
pub record BlockOutcome : Type 0 where
  pub refusal : ℕ
  pub block : Option ℕ
  pub taken : ℕ
  pub passed : ℕ
  pub state : State

abbrev pub block_outcome_of : Answer (Result (Option ℕ) Refusal) → BlockOutcome
block_outcome_of a =
    record { refusal = refusal_in a.report.found; block = found_in a.report.found; taken = a.report.taken; passed = a.report.passed; state = a.state }

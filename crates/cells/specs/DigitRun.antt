-- A digit run (document 02, 2026-01): "takes by one counted reader (0 to 2) go on while the next peeked byte is a digit, and the answer is
-- the exact 64-bit value, with the first other byte untaken." Assumes nothing.
use Rattle.std.specs.Prelude.{ℕ, zero, suc, ◌+◌, ◌^◌, Bool, false, cond, not, List, [], ◌∷◌, ◌++◌, eqb, ltb, length, Option, Some, None, Result, Ok, Err}
use Rattle.word.specs.Check.{line, first_failing}
use Rattle.reader.specs.declared.state.Reader.{Reader}
use Rattle.reader.specs.declared.state.State.{State}
use Rattle.reader.specs.declared.passing.Syntax.{Syntax}
use Rattle.reader.specs.Reading.{Reading, reading_with}
use Rattle.reader.specs.Answer.{Outcome, number_of}
use Rattle.reader.specs.Calls.{peek_of, next_of}
use Rattle.reader.specs.ZeroSkip.{skip_refusal}
use Rattle.reader.specs.History.{byte_taken}
use Rattle.reader.specs.declared.answer.Answer.{Answer}
use Rattle.cells.specs.declared.digit_run.RunError.{RunError}
use Rattle.cells.specs.declared.digit_run.RunError.TheVariants.{NoDigit, AboveWidth, Refused}
use Rattle.cells.specs.Value.{value_of}

-- THE DIGITS TAKEN, and the state behind them. Nothing here is refused by 23 or 24.

pub record Digits : Type 0 where
  pub digits : List ℕ
  pub passed : ℕ
  pub state : State

-- where a peek sees no digit, or no byte, the run is over; what that peek passed stays
abbrev pub stopped : Outcome → Digits
stopped seen = record { digits = []; passed = seen.passed; state = seen.state }

-- a peek and the take behind it, in front of the rest of the run
abbrev pub step_then : Outcome → Outcome → Digits → Digits
step_then seen took rest =
    record { digits = byte_taken took.byte ++ rest.digits; passed = seen.passed + took.passed + rest.passed; state = rest.state }

abbrev pub sees_digit : Reading → Option ℕ → Bool
sees_digit m None = false
sees_digit m (Some b) = m.digit b

-- "Each step peeks, then takes from the state that the peek left." At most n steps, and the peek that ends the run.
unfoldable pub digits_from : ℕ → Reading → List ℕ → Reader → State → Digits
digits_from zero m s r st = stopped (peek_of m s st r)
digits_from (suc n) m s r st =
    cond (sees_digit m (peek_of m s st r).byte)
    (step_then (peek_of m s st r) (next_of m s (peek_of m s st r).state r) (digits_from n m s r (next_of m s (peek_of m s st r).state r).state))
    (stopped (peek_of m s st r))

-- there are no more steps that take a byte than there are bytes
abbrev pub taken_run : Reading → List ℕ → State → Reader → Digits
taken_run m s st r = digits_from (length s) m s r st

-- THE RUN

-- the refusal's number or 0, the value if there is one, taken, passed, and the state returned
pub record RunOutcome : Type 0 where
  pub refusal : ℕ
  pub value : Option ℕ
  pub taken : ℕ
  pub passed : ℕ
  pub state : State

abbrev pub refused_run : ℕ → State → RunOutcome
refused_run number st = record { refusal = number; value = None; taken = 0; passed = 0; state = st }

abbrev pub read_run : ℕ → Digits → RunOutcome
read_run v run = record { refusal = 0; value = Some v; taken = length run.digits; passed = run.passed; state = run.state }

-- "23 no digit and 24 value above 64 bits, tested in that order"
abbrev pub line23 : List ℕ → ℕ
line23 digits = line 23 (not (eqb (length digits) 0))

abbrev pub line24 : ℕ → ℕ
line24 v = line 24 (ltb v (2 ^ 64))

-- "after 01's": 16, 17, 18 ("Reader 3 gets 18"), then 12 to 14, as a zero skip has them
unfoldable pub run_refusal : Syntax → List ℕ → State → Reader → ℕ
run_refusal x s st r =
    first_failing
    (skip_refusal x.flags s st r
    ∷ line23 (taken_run (reading_with x) s st r).digits
    ∷ line24 (value_of x.radix (taken_run (reading_with x) s st r).digits)
    ∷ [])

unfoldable pub digit_run_of : Syntax → List ℕ → State → Reader → RunOutcome
digit_run_of x s st r =
    cond (eqb (run_refusal x s st r) 0)
    (read_run (value_of x.radix (taken_run (reading_with x) s st r).digits) (taken_run (reading_with x) s st r))
    (refused_run (run_refusal x s st r) st)

-- WHAT THE CASES OF THE ANSWER SAY

abbrev pub error_number : RunError → ℕ
error_number NoDigit = 23
error_number AboveWidth = 24
error_number (Refused e) = number_of e

abbrev pub run_number : Result ℕ RunError → ℕ
run_number (Ok v) = 0
run_number (Err e) = error_number e

abbrev pub run_value : Result ℕ RunError → Option ℕ
run_value (Ok v) = Some v
run_value (Err e) = None

abbrev pub run_outcome_of : Answer (Result ℕ RunError) → RunOutcome
run_outcome_of a =
    record { refusal = run_number a.report.found; value = run_value a.report.found; taken = a.report.taken; passed = a.report.passed; state = a.state }

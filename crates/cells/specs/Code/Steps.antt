-- A run on plain numbers (src/digit_run.rt): its steps from a place with a count. Assumes nothing.
use Rattle.std.specs.Prelude.{◌≡◌, Bool, true, cond, not, ◌&&◌, List, [], ◌∷◌, ℕ, suc, ◌+◌, ◌≤◌, eqb, length, get_or, Option, Some, None}
use Rattle.reader.specs.declared.state.Reader.{Reader}
use Rattle.reader.specs.declared.state.State.{State}
use Rattle.reader.specs.declared.passing.Syntax.{Syntax}
use Rattle.reader.specs.declared.rule.Flags.{Flags}
use Rattle.reader.specs.Reading.{Reading, passed_at}
use Rattle.reader.specs.State.{count_of, count_sum, is_counted, moved_to}
use Rattle.reader.specs.Code.TakeSums.{with_count}
use Rattle.reader.specs.Answer.{Outcome}
use Rattle.reader.specs.Calls.{refusal_with}
use Rattle.cells.specs.declared.digit_run.Step.{Step}
use Rattle.cells.specs.declared.digit_run.Step.TheVariants as step
use Rattle.cells.specs.DigitRun.{Digits, RunOutcome, refused_run, digits_from}

-- a digit in front of a run, with what was passed up to it
abbrev pub digit_then : ℕ → ℕ → Digits → Digits
digit_then c over rest = record { digits = c ∷ rest.digits; passed = over + rest.passed; state = rest.state }

-- what a take behind a peek comes to as a step: a byte, with the place and the count behind it, or none
abbrev pub step_of_byte : Option ℕ → Reader → ℕ → Outcome → Step
step_of_byte None r over o = step.Over o.state.cursor (over + o.passed)
step_of_byte (Some c) r over o = step.Taken c o.state.cursor (count_of o.state r) (over + o.passed)

abbrev pub step_behind : Reader → ℕ → Outcome → Step
step_behind r over o = step_of_byte o.byte r over o

-- a place and a count that a reader's run has come to, from a state that is not refused
pub record Stands (f : Flags) (s : List ℕ) (r : Reader) (st : State) (at count : ℕ) : Type 0 where
  pub clear : refusal_with f s st r ≡ 0
  pub counted : is_counted r ≡ true
  pub sums : count_sum (with_count (moved_to st at) r count) ≤ at
  pub inside : at ≤ length s

-- where a separator was refused, taken and counted, the next one of its run is refused too
abbrev pub still_refused : Syntax → ℕ → ℕ → ℕ → Bool
still_refused x c over count = ((x.flags.consecutive && eqb c x.separator) && eqb over 0) && not (eqb count 0)

-- a run that is over, by its numbers
abbrev pub ended_run : State → ℕ → ℕ → ℕ → State → RunOutcome
ended_run st v taken passed end =
    cond (eqb taken 0) (refused_run 23 st) (record { refusal = 0; value = Some v; taken = taken; passed = passed; state = end })

module _ (m : Reading) (s : List ℕ) (r : Reader) (st : State) where
  -- the state at a place with a count, and the run from there
  abbrev pub run_at : ℕ → ℕ → ℕ → Digits
  run_at n at count = digits_from n m s r (with_count (moved_to st at) r count)

  -- a step from a place with a count that takes the byte c, and comes to another place and count
  pub record Takes (at count c to behind over : ℕ) : Type 0 where
    pub more : (n : ℕ) → run_at (suc n) at count ≡ digit_then c over (run_at n to behind)
    pub moves : to ≡ at + over + 1
    pub inside : to ≤ length s
    pub byte : get_or s (at + over) 0 ≡ c
    pub grows : (count ≤ behind) × (behind ≤ count + 1)
    pub stays : over ≡ 0 → passed_at m s (eqb count 0) at ≡ 0

  -- a step that takes none: the run is over
  pub record Ends (at count to over : ℕ) : Type 0 where
    pub all : (n : ℕ) → length s ≤ at + n → run_at n at count ≡ record { digits = []; passed = over; state = with_count (moved_to st to) r count }
    pub moves : to ≡ at + over
    pub inside : to ≤ length s

  abbrev pub StepTold : ℕ → ℕ → Step → Type 0
  StepTold at count (step.Taken c to behind over) = Takes at count c to behind over
  StepTold at count (step.Over to over) = Ends at count to over

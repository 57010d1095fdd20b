-- Digit runs in the byte tally: "A run read this way counts for the byte tally as all the peeks and takes that it makes, in their order; a
-- refused run counts as none." So a list of calls and runs stands for a list of calls, of which demand 3 speaks. Assumes nothing.
use Rattle.std.specs.Prelude.{◌≡◌, cond, List, [], ◌∷◌, ◌++◌, ℕ, zero, suc, ◌+◌, eqb, length}
use Rattle.reader.specs.declared.state.Reader.{Reader}
use Rattle.reader.specs.declared.state.State.{State}
use Rattle.reader.specs.declared.passing.Syntax.{Syntax}
use Rattle.reader.specs.Reading.{Reading, reading_with}
use Rattle.reader.specs.State.{Sheet, sheet_of, fresh_on}
use Rattle.reader.specs.Calls.{peek_of, next_of}
use Rattle.reader.specs.History.{Call, peek_by, take_by, answer_to, taken_in, passed_in, returned, total_of}
use Rattle.reader.specs.ByteTally.{trace_fresh, ByteTally}
use Rattle.cells.specs.DigitRun.{RunOutcome, sees_digit, digit_run_of}

-- one of the five calls, or a digit run
pub data Item : Type 0 where
  a_call : Call → Item
  a_run : Reader → Item

-- the peeks and takes that a run makes, as its definition makes them
unfoldable pub calls_from : ℕ → Reading → List ℕ → Reader → State → List Call
calls_from zero m s r st = peek_by r ∷ []
calls_from (suc n) m s r st =
    cond (sees_digit m (peek_of m s st r).byte)
    (peek_by r ∷ take_by r ∷ calls_from n m s r (next_of m s (peek_of m s st r).state r).state)
    (peek_by r ∷ [])

abbrev pub calls_of_run : Syntax → List ℕ → State → Reader → List Call
calls_of_run x s st r = cond (eqb (digit_run_of x s st r).refusal 0) (calls_from (length s) (reading_with x) s r st) []

-- `x` says what a sheet means to each reader
module _ (x : Sheet → Reader → Syntax) (s : List ℕ) where
  abbrev pub run_from : State → Reader → RunOutcome
  run_from st r = digit_run_of (x (sheet_of st) r) s st r

  abbrev pub readings : Sheet → Reader → Reading
  readings sheet r = reading_with (x sheet r)

  -- what a list returns from a state: the last state, and the sums of taken and passed
  pub record Sums : Type 0 where
    pub state : State
    pub taken : ℕ
    pub passed : ℕ

  abbrev pub sums_after : Sums → List Item → Sums
  sums_after w [] = w
  sums_after w (a_call call ∷ rest) =
      sums_after
      (record {
        state = returned (answer_to readings s w.state call);
        taken = w.taken + taken_in (answer_to readings s w.state call);
        passed = w.passed + passed_in (answer_to readings s w.state call);
      })
      rest
  sums_after w (a_run r ∷ rest) =
      sums_after
      (record {
        state = (run_from w.state r).state;
        taken = w.taken + (run_from w.state r).taken;
        passed = w.passed + (run_from w.state r).passed;
      })
      rest

  -- the calls that it stands for
  abbrev pub stands_for : State → List Item → List Call
  stands_for st [] = []
  stands_for st (a_call call ∷ rest) = call ∷ stands_for (returned (answer_to readings s st call)) rest
  stands_for st (a_run r ∷ rest) = calls_of_run (x (sheet_of st) r) s st r ++ stands_for (run_from st r).state rest

  -- where it comes to from a fresh cursor on a sheet, and the calls that it stands for there
  abbrev pub sums_of : Sheet → List Item → Sums
  sums_of sheet items = sums_after (record { state = fresh_on sheet; taken = 0; passed = 0 }) items

  abbrev pub calls_of : Sheet → List Item → List Call
  calls_of sheet items = stands_for (fresh_on sheet) items

  -- These calls come to the same state, with the same sums as the calls and runs returned; and the byte tally holds of them.
  pub record RunTally (sheet : Sheet) (items : List Item) : Type 0 where
    pub state : (trace_fresh readings s sheet (calls_of sheet items)).state ≡ (sums_of sheet items).state
    pub taken : total_of taken_in (trace_fresh readings s sheet (calls_of sheet items)).history ≡ (sums_of sheet items).taken
    pub passed : total_of passed_in (trace_fresh readings s sheet (calls_of sheet items)).history ≡ (sums_of sheet items).passed
    pub tally : ByteTally readings s sheet (calls_of sheet items)

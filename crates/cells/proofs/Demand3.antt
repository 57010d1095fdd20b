-- DEMAND 3 with digit runs: a list of the five calls and of digit runs, in any order, from a fresh cursor on a sheet whose word the full
-- check accepts, stands for its calls, and demand-3 speaks of those. That the calls come to the state and the sums that the list returns
-- holds from every state, for every word. Assumes nothing else.
use Rattle.std.proofs.Common.{◌≡◌, ℕ, zero, suc, ◌+◌, Bool, true, false, cond, eqb, List, [], ◌∷◌, ◌++◌, length, refl, ap, ◌∙◌, subst, arith, length-append}
use Rattle.word.specs.Check.{full_check}
use Rattle.reader.specs.declared.state.Reader.{Reader}
use Rattle.reader.specs.declared.state.State.{State}
use Rattle.reader.specs.declared.passing.Syntax.{Syntax}
use Rattle.reader.specs.Reading.{Reading, reading_with, syntax_on}
use Rattle.reader.specs.State.{Sheet, sheet_of, fresh_on}
use Rattle.reader.specs.Answer.{Outcome}
use Rattle.reader.specs.Calls.{refusal_of, refused, peeked, peek_of, next_of}
use Rattle.reader.specs.History.{Call, peek_by, take_by, peek_answered, take_answered, byte_taken, answer_to, taken_in, passed_in, returned, Trace, trace_from, with_answer, trace_of, total_of}
use Rattle.reader.proofs.ByteTally.Steps.{peek_step, take_step, take_counts}
use Rattle.reader.proofs.Demand3.{demand_3}
use Rattle.cells.specs.DigitRun.{Digits, sees_digit, digits_from, run_refusal, digit_run_of}
use Rattle.cells.specs.ByteTally.{Item, a_call, a_run, calls_from, calls_of_run, run_from, readings, Sums, sums_after, stands_for, calls_of, RunTally}

-- a list of calls in two parts
trace_join : (m : Sheet → Reader → Reading) (s : List ℕ) (w : Trace) (a b : List Call) → trace_of m s w (a ++ b) ≡ trace_of m s (trace_of m s w a) b
trace_join m s w [] b = refl
trace_join m s w (call ∷ a) b = trace_join m s (with_answer w (answer_to m s w.state call)) a b

-- A trace v behind a trace w: it has come to a state, and has so much more taken and passed.
record Behind (w v : Trace) (state : State) (taken passed : ℕ) : Type 0 where
  here : v.state ≡ state
  took : total_of taken_in v.history ≡ total_of taken_in w.history + taken
  over : total_of passed_in v.history ≡ total_of passed_in w.history + passed

module _ (x : Sheet → Reader → Syntax) (s : List ℕ) (r : Reader) (sheet : Sheet) where
  abbrev m : Reading
  m = reading_with (x sheet r)

  -- a peek takes nothing, and leaves the sheet; so does a take
  peek_none : (st : State) → (peek_of m s st r).taken ≡ 0
  unfolding peek_of peeked
  peek_none st = go (eqb (refusal_of m s st r) 0) where
    go : (t : Bool) → (cond t (peeked m s st r) (refused (refusal_of m s st r) st)).taken ≡ 0
    go true = refl
    go false = refl

  peek_sheet : (st : State) → sheet_of (peek_of m s st r).state ≡ sheet_of st
  peek_sheet st = (peek_step (λ q. m) s st r).word

  take_sheet : (st : State) → sheet_of (next_of m s st r).state ≡ sheet_of st
  take_sheet st = (take_step (λ q. m) s st r).word

  -- the peek that ends a run
  last_peek : (w : Trace) → sheet_of w.state ≡ sheet
      → Behind w (trace_of (readings x s) s w (peek_by r ∷ [])) (peek_of m s w.state r).state 0 (peek_of m s w.state r).passed
  last_peek w e = rw e (record { here = refl; took = omega (arith, peek_none w.state); over = refl })

  module _ (w : Trace) (e : sheet_of w.state ≡ sheet) where
    abbrev seen : Outcome
    seen = peek_of m s w.state r

    abbrev took : Outcome
    took = next_of m s seen.state r

    -- behind a step that takes a byte
    abbrev behind : Trace
    behind = with_answer (with_answer w (peek_answered r seen)) (take_answered r took)

    seen_sheet : sheet_of seen.state ≡ sheet
    seen_sheet = peek_sheet w.state ∙ e

    behind_sheet : sheet_of took.state ≡ sheet
    behind_sheet = take_sheet seen.state ∙ seen_sheet

    step_trace : (rest : List Call) → trace_of (readings x s) s w (peek_by r ∷ take_by r ∷ rest) ≡ trace_of (readings x s) s behind rest
    step_trace rest = rw (e, seen_sheet)

    step_then : (v : Trace) (run : Digits) → Behind behind v run.state (length run.digits) run.passed
        → Behind w v run.state (length (byte_taken took.byte ++ run.digits)) (seen.passed + took.passed + run.passed)
    step_then v run rest =
        record {
          here = rest.here;
          took = omega (arith, rest.took, peek_none w.state, take_counts (λ q. m) s seen.state r, length-append (byte_taken took.byte) run.digits);
          over = omega (arith, rest.over);
        }

  -- a run's peeks and takes come to its state and sums
  steps_behind : (n : ℕ) (w : Trace) → sheet_of w.state ≡ sheet
      → Behind w (trace_of (readings x s) s w (calls_from n m s r w.state)) (digits_from n m s r w.state).state
      (length (digits_from n m s r w.state).digits) (digits_from n m s r w.state).passed
  unfolding calls_from digits_from
  steps_behind zero w e = last_peek w e
  steps_behind (suc n) w e = go (sees_digit m (peek_of m s w.state r).byte) refl (steps_behind n (behind w e) (behind_sheet w e)) where
    go :
        (t : Bool) → sees_digit m (peek_of m s w.state r).byte ≡ t
        → Behind (behind w e) (trace_of (readings x s) s (behind w e) (calls_from n m s r (took w e).state)) (digits_from n m s r (took w e).state).state
        (length (digits_from n m s r (took w e).state).digits) (digits_from n m s r (took w e).state).passed
        → Behind w (trace_of (readings x s) s w (calls_from (suc n) m s r w.state)) (digits_from (suc n) m s r w.state).state
        (length (digits_from (suc n) m s r w.state).digits) (digits_from (suc n) m s r w.state).passed
    go false t rest = rw t (last_peek w e)
    go true t rest = rw (t, step_trace w e (calls_from n m s r (took w e).state)) (step_then w e _ (digits_from n m s r (took w e).state) rest)

-- a run, refused or not
run_behind : (x : Sheet → Reader → Syntax) (s : List ℕ) (r : Reader) (w : Trace)
    → Behind w (trace_of (readings x s) s w (calls_of_run (x (sheet_of w.state) r) s w.state r)) (run_from x s w.state r).state
    (run_from x s w.state r).taken (run_from x s w.state r).passed
unfolding digit_run_of
run_behind x s r w = go (eqb (run_refusal own s w.state r) 0) refl where
  own : Syntax
  own = x (sheet_of w.state) r

  go : (t : Bool) → eqb (run_refusal own s w.state r) 0 ≡ t
      → Behind w (trace_of (readings x s) s w (calls_of_run own s w.state r)) (digit_run_of own s w.state r).state
      (digit_run_of own s w.state r).taken (digit_run_of own s w.state r).passed
  go true t = rw t (steps_behind x s r (sheet_of w.state) (length s) w refl)
  go false t = rw (t, t) (record { here = refl; took = omega arith; over = omega arith })

-- A LIST OF CALLS AND RUNS, from any state: the calls that it stands for come to the same state and sums
module _ (x : Sheet → Reader → Syntax) (s : List ℕ) where
  -- sums that a trace has come to
  record At (w : Trace) (sums : Sums x s) : Type 0 where
    here : w.state ≡ sums.state
    took : total_of taken_in w.history ≡ sums.taken
    over : total_of passed_in w.history ≡ sums.passed

  call_at : (call : Call) (w : Trace) (sums : Sums x s) → At w sums
      → At (with_answer w (answer_to (readings x s) s w.state call))
      (record {
        state = returned (answer_to (readings x s) s sums.state call);
        taken = sums.taken + taken_in (answer_to (readings x s) s sums.state call);
        passed = sums.passed + passed_in (answer_to (readings x s) s sums.state call);
      })
  call_at call w sums now =
      let same : answer_to (readings x s) s w.state call ≡ answer_to (readings x s) s sums.state call = ap (λ (st : State). answer_to (readings x s) s st call) now.here in
      record {
        here = ap returned same;
        took = omega (arith, now.took, ap taken_in same);
        over = omega (arith, now.over, ap passed_in same);
      }

  run_at : (r : Reader) (w : Trace) (sums : Sums x s) → At w sums
      → At (trace_of (readings x s) s w (calls_of_run (x (sheet_of sums.state) r) s sums.state r))
      (record {
        state = (run_from x s sums.state r).state;
        taken = sums.taken + (run_from x s sums.state r).taken;
        passed = sums.passed + (run_from x s sums.state r).passed;
      })
  run_at r w sums now =
      let run =
      subst
      (λ (st : State). Behind w (trace_of (readings x s) s w (calls_of_run (x (sheet_of st) r) s st r)) (run_from x s st r).state (run_from x s st r).taken (run_from x s st r).passed)
      now.here (run_behind x s r w) in
      record { here = run.here; took = omega (arith, run.took, now.took); over = omega (arith, run.over, now.over) }

  list_at : (items : List Item) (w : Trace) (sums : Sums x s) → At w sums
      → At (trace_of (readings x s) s w (stands_for x s sums.state items)) (sums_after x s sums items)
  list_at [] w sums now = now
  list_at (a_call call ∷ rest) w sums now = list_at rest _ _ (call_at call w sums now)
  list_at (a_run r ∷ rest) w sums now =
      rw (trace_join (readings x s) s w (calls_of_run (x (sheet_of sums.state) r) s sums.state r) (stands_for x s (run_from x s sums.state r).state rest))
      (list_at rest _ _ (run_at r w sums now))

-- DEMAND 3, WITH DIGIT RUNS
pub demand_3_runs : (sheet : Sheet) → full_check sheet.format ≡ 0 → (s : List ℕ) (items : List Item) → RunTally syntax_on s sheet items
demand_3_runs sheet accepted s items =
    let all = list_at syntax_on s items (trace_from (fresh_on sheet)) _ (record { here = refl; took = refl; over = refl }) in
    record { state = all.here; taken = all.took; passed = all.over; tally = demand_3 sheet accepted s (calls_of syntax_on s sheet items) }

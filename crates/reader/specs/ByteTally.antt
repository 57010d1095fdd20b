-- Demand 3, the byte tally: a single claim about a whole list of calls (documents 00 and 01, "Readers"). Assumes nothing.
use Rattle.std.specs.Prelude.{◌≡◌, ℕ, ◌+◌, ◌<◌, ◌≤◌, true, false, List, [], ◌∷◌, ◌++◌, length, take, drop, replicate, ◌==◌, ◌≢◌, Some, None}
use Rattle.reader.specs.declared.state.Reader.{Reader}
use Rattle.reader.specs.declared.state.State.{State}
use Rattle.reader.specs.Reading.{Reading, may_pass}
use Rattle.reader.specs.State.{Sheet, sheet_of, fresh_on, count_of}
use Rattle.reader.specs.Answer.{Outcome, ReadOutcome, SkipOutcome}
use Rattle.reader.specs.ZeroSkip.{is_zero}
use Rattle.reader.specs.History.{Call, peek_by, take_by, read_if_by, zero_skip_by, block_by, Answered, peek_answered, take_answered, read_answered, skip_answered, block_answered, answer_to, number_in, taken_in, passed_in, returned, shown_in, seen_in, Trace, trace_from, trace_of, total_of, outcomes_of, Step, byte_taken, steps_of, joined, history_count, step_count}

-- A run of separators that a step passed is separators only. It began at the place whose number is how many bytes were joined
-- before it: there the buffer has a separator and the reader's rule holds, first if its count of the history is 0 up to there,
-- else later. A zero skip stands as its reads, so the count up to one of these has the zeros that those before it took.
pub record RunAllowed (m : Reader → Reading) (s : List ℕ) (e : Step) (earlier : List Step) : Type 0 where
  pub separators : take e.passed (drop (length (joined m earlier)) s) ≡ replicate e.passed (m e.reader).separator
  pub rule : may_pass (m e.reader) s (step_count m e.reader earlier == 0) (length (joined m earlier)) ≡ true

abbrev pub RunsAllowed : (Reader → Reading) → List ℕ → List Step → Type 0
RunsAllowed m s [] = Unit {0}
RunsAllowed m s (e ∷ earlier) = RunsAllowed m s earlier × (0 < e.passed → RunAllowed m s e earlier)

-- Wherever a call ends, the count up to there by the steps is document 01's count of the history, by the answers.
abbrev pub CountsAgree : (Reader → Reading) → List Answered → Type 0
CountsAgree m [] = Unit {0}
CountsAgree m (a ∷ earlier) = CountsAgree m earlier × ((r : Reader) → step_count m r (steps_of (a ∷ earlier)) ≡ history_count m r (a ∷ earlier))

-- "such reads of `0`, each raising the count, until one fails; the answer is how many", and "its taken and passed are the sums of
-- theirs": how many reads took a byte, and what all of them took and passed.
abbrev pub reads_that_took : List Outcome → ℕ
reads_that_took [] = 0
reads_that_took (o ∷ rest) = length (byte_taken o.byte) + reads_that_took rest

abbrev pub taken_by_reads : List Outcome → ℕ
taken_by_reads [] = 0
taken_by_reads (o ∷ rest) = o.taken + taken_by_reads rest

abbrev pub passed_by_reads : List Outcome → ℕ
passed_by_reads [] = 0
passed_by_reads (o ∷ rest) = o.passed + passed_by_reads rest

-- each read but the last took the `0` that it saw; the last took none: it declined another byte, or saw none. None was refused.
abbrev pub ZerosThenNone : List ReadOutcome → Type 0
ZerosThenNone [] = ⊥
ZerosThenNone (o ∷ []) =
    (o.outcome.byte ≡ None) × (o.outcome.taken ≡ 0) × (o.outcome.refusal ≡ 0) × ((b : ℕ) → o.seen ≡ Some b → is_zero b ≡ false)
ZerosThenNone (o ∷ next ∷ rest) =
    (o.outcome.byte ≡ Some 48) × (o.outcome.taken ≡ 1) × (o.outcome.refusal ≡ 0) × (o.seen ≡ Some 48) × ZerosThenNone (next ∷ rest)

pub record SkipTold (o : SkipOutcome) (made : List ReadOutcome) : Type 0 where
  pub zeros : o.zeros ≡ Some (reads_that_took (outcomes_of made))
  pub taken : o.taken ≡ taken_by_reads (outcomes_of made)
  pub passed : o.passed ≡ passed_by_reads (outcomes_of made)
  pub reads : ZerosThenNone made

-- every zero skip that was not refused
abbrev pub AnswerTold : Answered → Type 0
AnswerTold (peek_answered r o) = Unit {0}
AnswerTold (take_answered r o) = Unit {0}
AnswerTold (read_answered r o) = Unit {0}
AnswerTold (skip_answered r o reads) = o.refusal ≡ 0 → SkipTold o reads
AnswerTold (block_answered r o part) = Unit {0}

abbrev pub SkipsTold : List Answered → Type 0
SkipsTold [] = Unit {0}
SkipsTold (a ∷ earlier) = SkipsTold earlier × AnswerTold a

-- every call returned the word unchanged, and what stands beside it on the sheet
abbrev pub WordKept : Sheet → List Answered → Type 0
WordKept sheet [] = Unit {0}
WordKept sheet (a ∷ earlier) = WordKept sheet earlier × (sheet_of (returned a) ≡ sheet)

-- no call was refused by this number
abbrev pub NeverRefusedBy : ℕ → List Answered → Type 0
NeverRefusedBy number [] = Unit {0}
NeverRefusedBy number (a ∷ earlier) = NeverRefusedBy number earlier × (number_in a ≢ number)

-- The inserted peek: by the reader of the call, which is a take, a conditional read, or a zero skip that is not refused.
abbrev pub reader_of : Call → Reader
reader_of (peek_by r) = r
reader_of (take_by r) = r
reader_of (read_if_by r wanted) = r
reader_of (zero_skip_by r) = r
reader_of (block_by r n) = r

abbrev pub Preceded : (Sheet → Reader → Reading) → List ℕ → State → Call → Type 0
Preceded m s st (peek_by r) = ⊥
Preceded m s st (take_by r) = Unit {0}
Preceded m s st (read_if_by r wanted) = Unit {0}
Preceded m s st (zero_skip_by r) = number_in (answer_to m s st (zero_skip_by r)) ≡ 0
Preceded m s st (block_by r n) = ⊥

abbrev pub peek_before : (Sheet → Reader → Reading) → List ℕ → State → Call → Answered
peek_before m s st call = answer_to m s st (peek_by (reader_of call))

-- What the call answers from the state that the peek returned, beside what it answers without the peek: the same byte or number of
-- zeros, of a read also the same byte seen, and the same state, so that the rest of the list goes on the same. The two passed counts add
-- up to the one without.
pub record PeekChangesNothing (m : Sheet → Reader → Reading) (s : List ℕ) (st : State) (call : Call) : Type 0 where
  pub shown : shown_in (answer_to m s (returned (peek_before m s st call)) call) ≡ shown_in (answer_to m s st call)
  pub seen : seen_in (answer_to m s (returned (peek_before m s st call)) call) ≡ seen_in (answer_to m s st call)
  pub state : returned (answer_to m s (returned (peek_before m s st call)) call) ≡ returned (answer_to m s st call)
  pub rest :
      (calls : List Call) →
      trace_of m s (trace_from (returned (answer_to m s (returned (peek_before m s st call)) call))) calls
      ≡ trace_of m s (trace_from (returned (answer_to m s st call))) calls
  pub passed :
      passed_in (peek_before m s st call) + passed_in (answer_to m s (returned (peek_before m s st call)) call) ≡ passed_in (answer_to m s st call)

-- where a list of calls has come to, from a fresh cursor on the sheet
abbrev pub trace_fresh : (Sheet → Reader → Reading) → List ℕ → Sheet → List Call → Trace
trace_fresh m s sheet calls = trace_of m s (trace_from (fresh_on sheet)) calls

pub record ByteTally (m : Sheet → Reader → Reading) (s : List ℕ) (sheet : Sheet) (calls : List Call) : Type 0 where
  -- the separators passed and the bytes taken, joined in the order of the calls, are the bytes before the cursor
  pub bytes : joined (m sheet) (steps_of (trace_fresh m s sheet calls).history) ≡ take (trace_fresh m s sheet calls).state.cursor s
  -- which is within the buffer, so these are as many as its number says
  pub inside : (trace_fresh m s sheet calls).state.cursor ≤ length s
  -- cursor = taken + passed, summed from the counts the calls returned
  pub cursor :
      (trace_fresh m s sheet calls).state.cursor
      ≡ total_of taken_in (trace_fresh m s sheet calls).history + total_of passed_in (trace_fresh m s sheet calls).history
  -- each passed run is separators only and began where document 01 lets that reader pass
  pub runs : RunsAllowed (m sheet) s (steps_of (trace_fresh m s sheet calls).history)
  -- each of the digit counts equals document 01's count of the history for its reader
  pub counts : (r : Reader) → count_of (trace_fresh m s sheet calls).state r ≡ history_count (m sheet) r (trace_fresh m s sheet calls).history
  -- which, after each call, is the count by which the runs are first or later
  pub agree : CountsAgree (m sheet) (trace_fresh m s sheet calls).history
  -- each zero skip that is not refused answers how many of its reads took a byte, a `0` each; its last read, and no other, took none
  pub skips : SkipsTold (trace_fresh m s sheet calls).history
  -- a peek put into the list just before a take, conditional read or unrefused zero skip by the same reader changes nothing
  pub peeks :
      (before : List Call) (call : Call) (after : List Call) →
      calls ≡ before ++ (call ∷ after) →
      Preceded m s (trace_fresh m s sheet before).state call →
      PeekChangesNothing m s (trace_fresh m s sheet before).state call
  -- nor does it change where the list comes to
  pub inserted :
      (before : List Call) (call : Call) (after : List Call) →
      calls ≡ before ++ (call ∷ after) →
      Preceded m s (trace_fresh m s sheet before).state call →
      (trace_fresh m s sheet (before ++ (peek_by (reader_of call) ∷ call ∷ after))).state ≡ (trace_fresh m s sheet calls).state
  -- every call returns the word unchanged, and what stands beside it on the sheet
  pub word : WordKept sheet (trace_fresh m s sheet calls).history

-- The history of a list of calls (document 01, "Readers"): the calls so far with the answers that the contracts promise, and what is
-- joined and counted from them. A zero skip "stands as those reads", so they stand beside its answer; the byte tally holds the two
-- together. Assumes nothing.
use Rattle.std.specs.Prelude.{ℕ, ◌+◌, Bool, cond, ◌&&◌, List, [], ◌∷◌, ◌++◌, length, replicate, ◌==◌, Option, Some, None}
use Rattle.reader.specs.declared.state.Reader.{Reader}
use Rattle.reader.specs.declared.state.State.{State}
use Rattle.reader.specs.Reading.{Reading, has_any_flag}
use Rattle.reader.specs.State.{Sheet, sheet_of, is_counted, reader_number}
use Rattle.reader.specs.Answer.{Outcome, ReadOutcome, SkipOutcome, BlockOutcome}
use Rattle.reader.specs.Calls.{peek_of, next_of, read_of}
use Rattle.reader.specs.ZeroSkip.{zero_reads_of, skip_zeros_of}
use Rattle.reader.specs.Block.{take_n_of, take_n_part}

-- A call of the list: it may name any reader, set and number.
pub data Call : Type 0 where
  peek_by : Reader → Call
  take_by : Reader → Call
  read_if_by : Reader → (ℕ → Bool) → Call
  zero_skip_by : Reader → Call
  block_by : Reader → ℕ → Call

-- A call with its answer. A zero skip stands with the reads that it is, a block with its part.
pub data Answered : Type 0 where
  peek_answered : Reader → Outcome → Answered
  take_answered : Reader → Outcome → Answered
  read_answered : Reader → ReadOutcome → Answered
  skip_answered : Reader → SkipOutcome → List ReadOutcome → Answered
  block_answered : Reader → BlockOutcome → List ℕ → Answered

-- reads one after the other from a state, each with the byte that its peek saw there
abbrev pub with_seen : Reading → List ℕ → Reader → State → List Outcome → List ReadOutcome
with_seen m s r st [] = []
with_seen m s r st (o ∷ rest) = record { outcome = o; seen = (peek_of m s st r).byte } ∷ with_seen m s r o.state rest

-- what they did
abbrev pub outcomes_of : List ReadOutcome → List Outcome
outcomes_of [] = []
outcomes_of (o ∷ rest) = o.outcome ∷ outcomes_of rest

-- the reads of a zero skip, by its own answer: one that is refused makes none
abbrev pub reads_made : Reading → List ℕ → State → Reader → List ReadOutcome
reads_made m s st r = cond ((skip_zeros_of m s st r).refusal == 0) (with_seen m s r st (zero_reads_of m s st r)) []

-- What a call answers from a state. `m` says what a sheet means to each reader.
abbrev pub answer_by : (Reader → Reading) → List ℕ → State → Call → Answered
answer_by m s st (peek_by r) = peek_answered r (peek_of (m r) s st r)
answer_by m s st (take_by r) = take_answered r (next_of (m r) s st r)
answer_by m s st (read_if_by r wanted) = read_answered r (read_of (m r) s st r wanted)
answer_by m s st (zero_skip_by r) = skip_answered r (skip_zeros_of (m r) s st r) (reads_made (m r) s st r)
answer_by m s st (block_by r n) = block_answered r (take_n_of (m r) s st r n) (take_n_part (m r) s st r n)

-- The sheet is the state's own.
abbrev pub answer_to : (Sheet → Reader → Reading) → List ℕ → State → Call → Answered
answer_to m s st call = answer_by (m (sheet_of st)) s st call

-- an answer's own parts: the refusal's number or 0, taken, passed, and the state returned
abbrev pub number_in : Answered → ℕ
number_in (peek_answered r o) = o.refusal
number_in (take_answered r o) = o.refusal
number_in (read_answered r o) = o.outcome.refusal
number_in (skip_answered r o reads) = o.refusal
number_in (block_answered r o part) = o.refusal

abbrev pub taken_in : Answered → ℕ
taken_in (peek_answered r o) = o.taken
taken_in (take_answered r o) = o.taken
taken_in (read_answered r o) = o.outcome.taken
taken_in (skip_answered r o reads) = o.taken
taken_in (block_answered r o part) = o.taken

abbrev pub passed_in : Answered → ℕ
passed_in (peek_answered r o) = o.passed
passed_in (take_answered r o) = o.passed
passed_in (read_answered r o) = o.outcome.passed
passed_in (skip_answered r o reads) = o.passed
passed_in (block_answered r o part) = o.passed

abbrev pub returned : Answered → State
returned (peek_answered r o) = o.state
returned (take_answered r o) = o.state
returned (read_answered r o) = o.outcome.state
returned (skip_answered r o reads) = o.state
returned (block_answered r o part) = o.state

-- what it shows beside them: the byte of a peek or take, the byte that a read took, the zeros of a zero skip, the size of a block
abbrev pub shown_in : Answered → Option ℕ
shown_in (peek_answered r o) = o.byte
shown_in (take_answered r o) = o.byte
shown_in (read_answered r o) = o.outcome.byte
shown_in (skip_answered r o reads) = o.zeros
shown_in (block_answered r o part) = o.block

-- the byte that a read saw, also where it is declined; no other call tells one beside what it shows
abbrev pub seen_in : Answered → Option ℕ
seen_in (peek_answered r o) = None
seen_in (take_answered r o) = None
seen_in (read_answered r o) = o.seen
seen_in (skip_answered r o reads) = None
seen_in (block_answered r o part) = None

-- the part that a block take returns; the others return none
abbrev pub part_in : Answered → List ℕ
part_in (peek_answered r o) = []
part_in (take_answered r o) = []
part_in (read_answered r o) = []
part_in (skip_answered r o reads) = []
part_in (block_answered r o part) = part

-- THE CALLS OF A LIST: each gets the state that the last one returned.

-- where a list has come to: the state last returned, and the history, the latest answer first
pub record Trace : Type 0 where
  pub state : State
  pub history : List Answered

abbrev pub trace_from : State → Trace
trace_from st = record { state = st; history = [] }

abbrev pub with_answer : Trace → Answered → Trace
with_answer w a = record { state = returned a; history = a ∷ w.history }

abbrev pub trace_of : (Sheet → Reader → Reading) → List ℕ → Trace → List Call → Trace
trace_of m s w [] = w
trace_of m s w (call ∷ rest) = trace_of m s (with_answer w (answer_to m s w.state call)) rest

abbrev pub total_of : (Answered → ℕ) → List Answered → ℕ
total_of count [] = 0
total_of count (a ∷ earlier) = total_of count earlier + count a

-- THE STEPS: a step for each call, but for a zero skip one for each of its reads, the failed one included.

pub data Kind : Type 0 where
  a_peek a_take a_read a_zero_read a_block : Kind

-- who did what, how many separators it passed, and the bytes that it answered as taken
pub record Step : Type 0 where
  pub reader : Reader
  pub kind : Kind
  pub passed : ℕ
  pub bytes : List ℕ

-- the byte of a take or a read
abbrev pub byte_taken : Option ℕ → List ℕ
byte_taken None = []
byte_taken (Some b) = b ∷ []

abbrev pub step_of : Reader → Kind → Outcome → Step
step_of r kind o = record { reader = r; kind = kind; passed = o.passed; bytes = byte_taken o.byte }

abbrev pub zero_steps : Reader → List Outcome → List Step → List Step
zero_steps r [] earlier = earlier
zero_steps r (o ∷ reads) earlier = zero_steps r reads (step_of r a_zero_read o ∷ earlier)

abbrev pub with_steps : Answered → List Step → List Step
with_steps (peek_answered r o) earlier = record { reader = r; kind = a_peek; passed = o.passed; bytes = [] } ∷ earlier
with_steps (take_answered r o) earlier = step_of r a_take o ∷ earlier
with_steps (read_answered r o) earlier = step_of r a_read o.outcome ∷ earlier
with_steps (skip_answered r o reads) earlier = zero_steps r (outcomes_of reads) earlier
with_steps (block_answered r o part) earlier = record { reader = r; kind = a_block; passed = o.passed; bytes = part } ∷ earlier

-- the steps of a history, the latest first
abbrev pub steps_of : List Answered → List Step
steps_of [] = []
steps_of (a ∷ earlier) = with_steps a (steps_of earlier)

-- "To the joined bytes a call adds the separator byte as often as it passed, then what it answered as taken."
abbrev pub joined : (Reader → Reading) → List Step → List ℕ
joined m [] = []
joined m (e ∷ earlier) = joined m earlier ++ (replicate e.passed (m e.reader).separator ++ e.bytes)

-- "The count of the history: zeros by the reader's zero skips, plus, if it has any flag, D bytes by its takes." The zeros are those
-- that the zero skip answers, the bytes those that the takes answer. The special reader counts nothing.
abbrev pub digits_in : (ℕ → Bool) → List ℕ → ℕ
digits_in digit [] = 0
digits_in digit (b ∷ rest) = cond (digit b) 1 0 + digits_in digit rest

abbrev pub digits_taken : Reading → List ℕ → ℕ
digits_taken m bytes = cond (has_any_flag m.flags) (digits_in m.digit bytes) 0

abbrev pub zeros_told : Option ℕ → ℕ
zeros_told None = 0
zeros_told (Some n) = n

abbrev pub counts_for : Reader → Reader → Bool
counts_for r by = is_counted r && reader_number r == reader_number by

abbrev pub added_to : (Reader → Reading) → Reader → Answered → ℕ
added_to m r (peek_answered by o) = 0
added_to m r (take_answered by o) = cond (counts_for r by) (digits_taken (m by) (byte_taken o.byte)) 0
added_to m r (read_answered by o) = 0
added_to m r (skip_answered by o reads) = cond (counts_for r by) (zeros_told o.zeros) 0
added_to m r (block_answered by o part) = 0

abbrev pub history_count : (Reader → Reading) → Reader → List Answered → ℕ
history_count m r [] = 0
history_count m r (a ∷ earlier) = history_count m r earlier + added_to m r a

-- The same count up to a step, which may be a read in the midst of a zero skip: there the reads so far have raised it, by the bytes that
-- they took.
abbrev pub digits_counted : Reading → Kind → List ℕ → ℕ
digits_counted m a_peek bytes = 0
digits_counted m a_take bytes = digits_taken m bytes
digits_counted m a_read bytes = 0
digits_counted m a_zero_read bytes = length bytes
digits_counted m a_block bytes = 0

abbrev pub step_count : (Reader → Reading) → Reader → List Step → ℕ
step_count m r [] = 0
step_count m r (e ∷ earlier) = step_count m r earlier + cond (counts_for r e.reader) (digits_counted (m e.reader) e.kind e.bytes) 0

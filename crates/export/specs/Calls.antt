-- The reader calls of a caller who names the reader by a byte and lends the state as words: `n` is the byte, `w` the words, s the
-- buffer. Each is the reader's own definition of that call; 19 where the byte or the state's edition names nothing. Assumes nothing.
use Rattle.std.specs.Prelude.{ℕ, Bool, List, [], ◌∷◌, None, slice_index}
use Rattle.word.specs.declared.byte_set.ByteSet.{ByteSet}
use Rattle.reader.specs.Answer.{Outcome, ReadOutcome, CountOutcome, SkipOutcome, BlockOutcome}
use Rattle.reader.specs.Reading.{syntax_for, reading_for}
use Rattle.reader.specs.Calls.{peek_of, next_of, next_all_of, read_of, current_count_of, refused, refused_read}
use Rattle.reader.specs.ZeroSkip.{refused_skip, skip_zeros_of}
use Rattle.reader.specs.Block.{refused_block, take_n_of}
use Rattle.cells.specs.DigitRun.{RunOutcome, refused_run, digit_run_of}
use Rattle.export.specs.State.{state_in, reader_on, by_reader}

unfoldable pub peeked_by : ℕ → List ℕ → List ℕ → Outcome
peeked_by n w s = by_reader (reader_on n (slice_index w 7)) (refused 19 (state_in w)) (λ r. peek_of (reading_for (state_in w) r) s (state_in w) r)

unfoldable pub taken_by : ℕ → List ℕ → List ℕ → Outcome
taken_by n w s = by_reader (reader_on n (slice_index w 7)) (refused 19 (state_in w)) (λ r. next_of (reading_for (state_in w) r) s (state_in w) r)

-- takes to the end
unfoldable pub taken_all_by : ℕ → List ℕ → List ℕ → Outcome
taken_all_by n w s = by_reader (reader_on n (slice_index w 7)) (refused 19 (state_in w)) (λ r. next_all_of (reading_for (state_in w) r) s (state_in w) r)

-- a conditional read, and the set that four words are
unfoldable pub read_by : ℕ → List ℕ → List ℕ → (ℕ → Bool) → ReadOutcome
read_by n w s wanted =
    by_reader (reader_on n (slice_index w 7)) (refused_read 19 (state_in w)) (λ r. read_of (reading_for (state_in w) r) s (state_in w) r wanted)

abbrev pub set_in : List ℕ → ByteSet
set_in set = record { bits = slice_index set 0 ∷ slice_index set 1 ∷ slice_index set 2 ∷ slice_index set 3 ∷ [] }

unfoldable pub skipped_by : ℕ → List ℕ → List ℕ → SkipOutcome
skipped_by n w s = by_reader (reader_on n (slice_index w 7)) (refused_skip 19 (state_in w)) (λ r. skip_zeros_of (reading_for (state_in w) r) s (state_in w) r)

-- a digit run
unfoldable pub digit_run_by : ℕ → List ℕ → List ℕ → RunOutcome
digit_run_by n w s = by_reader (reader_on n (slice_index w 7)) (refused_run 19 (state_in w)) (λ r. digit_run_of (syntax_for (state_in w) r) s (state_in w) r)

-- a block of up to k bytes
unfoldable pub block_taken_by : ℕ → List ℕ → List ℕ → ℕ → BlockOutcome
block_taken_by n w s k = by_reader (reader_on n (slice_index w 7)) (refused_block 19 (state_in w)) (λ r. take_n_of (reading_for (state_in w) r) s (state_in w) r k)

-- the count that is shown
unfoldable pub counted_for : ℕ → List ℕ → List ℕ → CountOutcome
counted_for n w s =
    by_reader (reader_on n (slice_index w 7)) (record { refusal = 19; count = None }) (λ r. current_count_of (reading_for (state_in w) r) s (state_in w) r)

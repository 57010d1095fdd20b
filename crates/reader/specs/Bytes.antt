-- The struct that keeps the caller's slice beside the state (document 01, "Recast from the Rust"): its calls are those of the slice and
-- the state. Assumes nothing.
use Rattle.std.specs.Prelude.{ℕ, min, List, length, drop}
use Rattle.std.specs.Borrow.{Bor}
use Rattle.word.specs.declared.format_flags.Format.{Format}
use Rattle.word.specs.declared.byte_set.ByteSet.{ByteSet}
use Rattle.word.specs.ByteSet.{member}
use Rattle.reader.specs.declared.state.Reader.{Reader}
use Rattle.reader.specs.declared.state.State.{State}
use Rattle.reader.specs.declared.bytes.Bytes.{Bytes}
use Rattle.reader.specs.State.{fresh_of}
use Rattle.reader.specs.Reading.{reading_of, reading_for}
use Rattle.reader.specs.Answer.{Outcome, ReadOutcome, SkipOutcome, BlockOutcome, CountOutcome}
use Rattle.reader.specs.Calls.{peek_of, next_of, next_all_of, read_of, current_count_of}
use Rattle.reader.specs.ZeroSkip.{skip_zeros_of}
use Rattle.reader.specs.Part.{PartOf}
use Rattle.reader.specs.Block.{take_n_of}

-- a slice with a fresh state
abbrev pub bytes_over : Bor (List ℕ) → Format → Bytes
bytes_over slc f = record { slc = slc; state = fresh_of f }

-- the same slice at another state
abbrev pub at_state : Bytes → State → Bytes
at_state b st = record { slc = b.slc; state = st }

-- p is what is left of a lent slice: its part from the cursor on; the empty part at its end, with the cursor past that
abbrev pub Rest : Bor (List ℕ) → State → Bor (List ℕ) → Type 0
Rest lent st p = PartOf lent (min st.cursor (length lent.now)) (drop st.cursor lent.now) p

abbrev pub peek_bytes : Bytes → Reader → Outcome
peek_bytes b r = peek_of (reading_for b.state r) b.slc.now b.state r

abbrev pub next_bytes : Bytes → Reader → Outcome
next_bytes b r = next_of (reading_for b.state r) b.slc.now b.state r

abbrev pub next_all_bytes : Bytes → Reader → Outcome
next_all_bytes b r = next_all_of (reading_for b.state r) b.slc.now b.state r

abbrev pub count_bytes : Bytes → Reader → CountOutcome
count_bytes b r = current_count_of (reading_for b.state r) b.slc.now b.state r

abbrev pub skip_bytes : Bytes → Reader → SkipOutcome
skip_bytes b r = skip_zeros_of (reading_for b.state r) b.slc.now b.state r

abbrev pub read_bytes : Bytes → Reader → ByteSet → ReadOutcome
read_bytes b r wanted = read_of (reading_for b.state r) b.slc.now b.state r (member wanted)

abbrev pub take_n_bytes : Bytes → Reader → ℕ → BlockOutcome
take_n_bytes b r n = take_n_of (reading_for b.state r) b.slc.now b.state r n

-- takes to the end of a buffer, from a fresh state
abbrev pub whole_outcome : List ℕ → Format → Reader → Outcome
whole_outcome s f r = next_all_of (reading_of f r) s (fresh_of f) r

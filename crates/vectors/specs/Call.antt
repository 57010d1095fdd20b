-- A recorded call of a reader: what its packed numbers ask, and how an answer is packed. Assumes nothing.
use Rattle.std.specs.Prelude.{ℕ, cond, List, [], ◌∷◌, eqb, ◌==◌, nat_le, length, take, Option, Some, None, Result, Ok, Err}
use Rattle.word.specs.declared.format_flags.Format.{Format}
use Rattle.reader.specs.declared.state.Reader.{Reader}
use Rattle.reader.specs.declared.state.State.{State}
use Rattle.reader.specs.State.{reader_named}
use Rattle.reader.specs.declared.answer.Answer.{Answer}
use Rattle.reader.specs.declared.answer.Read.{Read}
use Rattle.reader.specs.declared.answer.Read.TheVariants as read
use Rattle.reader.specs.Answer.{Outcome, ReadOutcome, SkipOutcome, BlockOutcome}
use Rattle.reader.specs.Reading.{syntax_for, reading_for}
use Rattle.reader.specs.Calls.{peek_of, next_of, read_of, next_all_of}
use Rattle.reader.specs.ZeroSkip.{skip_zeros_of}
use Rattle.reader.specs.Block.{take_n_of, take_n_part}
use Rattle.cells.specs.DigitRun.{RunOutcome, digit_run_of}
use Rattle.vectors.specs.Packed.{byte_of, with_byte, low_byte_behind, all_behind}

-- An answer's first two bytes: 1 and the byte, how many zeros or the value's lowest byte, 0 and 0 where there is none, 2 and a
-- refusal's number.
abbrev pub value_or_none : Option ℕ → ℕ
value_or_none None = 0
value_or_none (Some n) = low_byte_behind 1 n

-- of a read: 1 and the byte taken, 3 and the byte seen where it is declined, 0 and 0 at the end
abbrev pub read_or_none : (byte seen : Option ℕ) → ℕ
read_or_none (Some b) seen = low_byte_behind 1 b
read_or_none None (Some b) = low_byte_behind 3 b
read_or_none None None = 0

-- of a block: 1 and 0, whatever its size
abbrev pub block_or_none : Option ℕ → ℕ
block_or_none None = 0
block_or_none (Some n) = low_byte_behind 1 0

abbrev pub or_refused : ℕ → ℕ → ℕ
or_refused number first = cond (eqb number 0) first (low_byte_behind 2 number)

-- of what a read did, and of a count of zeros or a run's value
abbrev pub read_first : Read → ℕ
read_first (read.Taken b) = low_byte_behind 1 b
read_first (read.Declined b) = low_byte_behind 3 b
read_first read.End = 0

abbrev pub value_first : ℕ → ℕ
value_first n = low_byte_behind 1 n

-- of what a call found, or why it is refused
abbrev pub first_in : {A E : Type 0} → (A → ℕ) → (E → ℕ) → Result A E → ℕ
first_in first number (Ok found) = first found
first_in first number (Err e) = low_byte_behind 2 (number e)

-- behind them the cursor, what was passed, the three counts, and what was taken
unfoldable pub with_state : ℕ → State → ℕ → ℕ → ℕ
with_state first st taken passed =
    all_behind first (st.cursor ∷ passed ∷ st.integer.0 ∷ st.fraction.0 ∷ st.exponent.0 ∷ taken ∷ [])

abbrev pub packed_as : {A E : Type 0} → (A → ℕ) → (E → ℕ) → Answer (Result A E) → ℕ
packed_as first number a = with_state (first_in first number a.report.found) a.state a.report.taken a.report.passed

abbrev pub packed_outcome : Outcome → ℕ
packed_outcome o = with_state (or_refused o.refusal (value_or_none o.byte)) o.state o.taken o.passed

abbrev pub packed_read : ReadOutcome → ℕ
packed_read o =
    with_state (or_refused o.outcome.refusal (read_or_none o.outcome.byte o.seen)) o.outcome.state o.outcome.taken o.outcome.passed

abbrev pub packed_skip : SkipOutcome → ℕ
packed_skip o = with_state (or_refused o.refusal (value_or_none o.zeros)) o.state o.taken o.passed

abbrev pub packed_block : BlockOutcome → ℕ
packed_block o = with_state (or_refused o.refusal (block_or_none o.block)) o.state o.taken o.passed

abbrev pub packed_run : RunOutcome → ℕ
packed_run o = with_state (or_refused o.refusal (value_or_none o.value)) o.state o.taken o.passed

-- a run's value: the whole number, and 0 where the run is refused, which the run's own answer tells from a value of 0
abbrev pub value_or_zero : Option ℕ → ℕ
value_or_zero None = 0
value_or_zero (Some v) = v

abbrev pub packed_value : RunOutcome → ℕ
packed_value o = value_or_zero o.value

-- a block's part: its length, then its bytes
unfoldable pub bytes_behind : ℕ → List ℕ → ℕ
bytes_behind packed [] = packed
bytes_behind packed (b ∷ rest) = bytes_behind (with_byte packed b) rest

abbrev pub packed_part : List ℕ → ℕ
packed_part part = bytes_behind (length part) part

-- by the call's kind: 0 peek, 1 take, 2 read of one value, 3 takes to the end, 4 zero skip, 5 block take, 6 the part of a block, 7 digit
-- run, 8 the value of a digit run; the word is the state's
unfoldable pub answer_to : ℕ → List ℕ → State → Reader → ℕ → Option ℕ
answer_to kind s st r value =
    cond (kind == 0) (Some (packed_outcome (peek_of (reading_for st r) s st r)))
    (cond (kind == 1) (Some (packed_outcome (next_of (reading_for st r) s st r)))
    (cond (kind == 2) (Some (packed_read (read_of (reading_for st r) s st r (λ b. eqb b value))))
    (cond (kind == 3) (Some (packed_outcome (next_all_of (reading_for st r) s st r)))
    (cond (kind == 4) (Some (packed_skip (skip_zeros_of (reading_for st r) s st r)))
    (cond (kind == 5) (Some (packed_block (take_n_of (reading_for st r) s st r value)))
    (cond (kind == 6) (Some (packed_part (take_n_part (reading_for st r) s st r value)))
    (cond (kind == 7) (Some (packed_run (digit_run_of (syntax_for st r) s st r)))
    (cond (kind == 8) (Some (packed_value (digit_run_of (syntax_for st r) s st r)))
    None))))))))

-- The buffer: up to eight bytes, the first one lowest.
unfoldable pub buffer_of : ℕ → List ℕ
buffer_of bytes =
    byte_of bytes 7 ∷ byte_of bytes 6 ∷ byte_of bytes 5 ∷ byte_of bytes 4 ∷ byte_of bytes 3 ∷ byte_of bytes 2 ∷ byte_of bytes 1 ∷ byte_of bytes 0 ∷ []

-- The bytes of `what`: the call's kind, the reader, the buffer's length, the cursor, the three counts, and a read's value or a
-- block's size.
unfoldable pub state_of : ℕ → Format → State
state_of what f =
    record {
      format = f;
      cursor = byte_of what 3;
      integer = record { 0 = byte_of what 4 };
      fraction = record { 0 = byte_of what 5 };
      exponent = record { 0 = byte_of what 6 };
    }

-- no call where the buffer is longer than eight bytes, or no reader is named
abbrev pub by_reader : Option Reader → (Reader → Option ℕ) → Option ℕ
by_reader None answer = None
by_reader (Some r) answer = answer r

abbrev pub asked_of : ℕ → Format → ℕ → Reader → Option ℕ
asked_of what f bytes r =
    answer_to (byte_of what 0) (take (byte_of what 2) (buffer_of bytes)) (state_of what f) r (byte_of what 7)

unfoldable pub repeated_of : ℕ → Format → ℕ → Option ℕ
repeated_of what f bytes =
    cond (nat_le (byte_of what 2) 8) (by_reader (reader_named (byte_of what 1)) (asked_of what f bytes)) None

-- The calls of a reader (document 01, "Passing", "Readers"), over what the word says to it. Assumes nothing.
use Rattle.std.specs.Prelude.{ℕ, ◌+◌, Bool, cond, not, ◌&&◌, List, [], ◌∷◌, length, ◌==◌, nat_le, Option, Some, None}
use Rattle.word.specs.Check.{line, first_failing}
use Rattle.reader.specs.declared.state.Reader.{Reader}
use Rattle.reader.specs.declared.state.Reader.TheVariants.{Integer, Fraction, Exponent, Special}
use Rattle.reader.specs.declared.rule.Flags.{Flags}
use Rattle.reader.specs.declared.state.State.{State}
use Rattle.reader.specs.Place.{byte_at}
use Rattle.reader.specs.Reading.{Reading, has_any_flag, is_consecutive_alone, passed_at}
use Rattle.reader.specs.State.{count_of, count_sum, moved_to, counted_by, is_counted}
use Rattle.reader.specs.Answer.{Outcome, ReadOutcome, CountOutcome}
use Rattle.reader.specs.Repeat.{repeated}

-- the number of "consecutive alone" for each counted reader; the special reader has none
abbrev pub consecutive_number : Reader → ℕ
consecutive_number Integer = 12
consecutive_number Fraction = 13
consecutive_number Exponent = 14
consecutive_number Special = 0

-- Reader calls test 16, 17, 18, then 12 to 14 for the reader's own flags. Only zero skips and block takes test 18.
abbrev pub line16 : List ℕ → State → ℕ
line16 s st = line 16 (nat_le st.cursor (length s))

abbrev pub line17 : State → ℕ
line17 st = line 17 (nat_le (count_sum st) st.cursor)

abbrev pub line18 : Reader → ℕ
line18 r = line 18 (is_counted r)

abbrev pub line_consecutive : Flags → Reader → ℕ
line_consecutive f r = line (consecutive_number r) (not (is_consecutive_alone f))

unfoldable pub place_refusal : List ℕ → State → ℕ
place_refusal s st = first_failing (line16 s st ∷ line17 st ∷ [])

unfoldable pub refusal_with : Flags → List ℕ → State → Reader → ℕ
refusal_with f s st r = first_failing (line16 s st ∷ line17 st ∷ line_consecutive f r ∷ [])

abbrev pub refusal_of : Reading → List ℕ → State → Reader → ℕ
refusal_of m s st r = refusal_with m.flags s st r

-- a refused call takes nothing, passes nothing and returns the state it was given
abbrev pub refused : ℕ → State → Outcome
refused number st = record { refusal = number; byte = None; taken = 0; passed = 0; state = st }

-- the outcome of a peek that passes k separators: the byte then under the cursor, or end
abbrev pub seen_past : List ℕ → State → ℕ → Outcome
seen_past s st k = record { refusal = 0; byte = byte_at s (st.cursor + k); taken = 0; passed = k; state = moved_to st (st.cursor + k) }

-- Peek: pass where the rule lets the reader; it is "first" while its count is 0.
unfoldable pub peeked : Reading → List ℕ → State → Reader → Outcome
peeked m s st r = seen_past s st (passed_at m s (count_of st r == 0) st.cursor)

unfoldable pub peek_of : Reading → List ℕ → State → Reader → Outcome
peek_of m s st r = cond (refusal_of m s st r == 0) (peeked m s st r) (refused (refusal_of m s st r) st)

-- Take: peek, then if there is a byte move past it; a reader with any flag counts it if it is a digit. (The special reader's
-- count is none.)
abbrev pub taken_from : Reading → Reader → ℕ → State → State
taken_from m r b st =
    cond (has_any_flag m.flags && m.digit b) (counted_by (moved_to st (st.cursor + 1)) r) (moved_to st (st.cursor + 1))

abbrev pub take_byte : Reading → Reader → Outcome → Option ℕ → Outcome
take_byte m r seen None = seen
take_byte m r seen (Some b) =
    record { refusal = 0; byte = Some b; taken = 1; passed = seen.passed; state = taken_from m r b seen.state }

unfoldable pub next_of : Reading → List ℕ → State → Reader → Outcome
next_of m s st r = take_byte m r (peek_of m s st r) (peek_of m s st r).byte

-- Conditional read: peek; a byte in the set is taken uncounted, else nothing is taken, yet the passing stays.
abbrev pub read_taken : Outcome → ℕ → Outcome
read_taken seen b =
    record { refusal = 0; byte = Some b; taken = 1; passed = seen.passed; state = moved_to seen.state (seen.state.cursor + 1) }

abbrev pub read_declined : Outcome → Outcome
read_declined seen = record { refusal = 0; byte = None; taken = 0; passed = seen.passed; state = seen.state }

abbrev pub read_byte_if : (ℕ → Bool) → Outcome → Option ℕ → Outcome
read_byte_if wanted seen None = seen
read_byte_if wanted seen (Some b) = cond (wanted b) (read_taken seen b) (read_declined seen)

unfoldable pub read_if_of : Reading → List ℕ → State → Reader → (ℕ → Bool) → Outcome
read_if_of m s st r wanted = read_byte_if wanted (peek_of m s st r) (peek_of m s st r).byte

-- "Let the read answer three ways: taken, declined with the byte seen, or end exactly where its peek answers end" (document 02): what it
-- did, and what its peek saw.
abbrev pub read_of : Reading → List ℕ → State → Reader → (ℕ → Bool) → ReadOutcome
read_of m s st r wanted = record { outcome = read_if_of m s st r wanted; seen = (peek_of m s st r).byte }

abbrev pub refused_read : ℕ → State → ReadOutcome
refused_read number st = record { outcome = refused number st; seen = None }

-- Take to the end: takes until one answers no byte. There are at most as many takes with a byte as there are bytes.
unfoldable pub next_all_of : Reading → List ℕ → State → Reader → Outcome
next_all_of m s st r = repeated (length s) (λ here. next_of m s here r) st

-- What the crate's `current_count` shows: of a counted reader with a flag its own count; without one the cursor where the
-- separator is 0, else the sum of the three counts. The special reader counts nothing.
abbrev pub unflagged_count : Reading → State → ℕ
unflagged_count m st = cond (m.separator == 0) st.cursor (count_sum st)

-- the special reader shows no count
abbrev pub own_count : Reader → ℕ → ℕ
own_count Integer n = n
own_count Fraction n = n
own_count Exponent n = n
own_count Special n = 0

unfoldable pub shown_count : Reading → State → Reader → ℕ
shown_count m st r = cond (has_any_flag m.flags) (count_of st r) (own_count r (unflagged_count m st))

unfoldable pub current_count_of : Reading → List ℕ → State → Reader → CountOutcome
current_count_of m s st r =
    cond (place_refusal s st == 0)
    (record { refusal = 0; count = Some (shown_count m st r) })
    (record { refusal = place_refusal s st; count = None })

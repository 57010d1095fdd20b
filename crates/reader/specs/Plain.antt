-- The plain reader (document 01, "Without separators"): it never passes, and its state is a cursor alone. Assumes nothing.
use Rattle.std.specs.Prelude.{ℕ, ◌+◌, cond, List, length, nat_le, Option, Some, None, Result, Ok, Err}
use Rattle.reader.specs.declared.noskip.CursorPastEnd.{CursorPastEnd}
use Rattle.reader.specs.declared.noskip.Answer.{Answer}
use Rattle.reader.specs.Place.{byte_at}

-- the outcome of a plain call, as `Outcome` is of the others
pub record PlainOutcome : Type 0 where
  pub refusal : ℕ
  pub byte : Option ℕ
  pub taken : ℕ
  pub passed : ℕ
  pub cursor : ℕ

-- 16 is its one refusal
abbrev pub plain_number : Result (Option ℕ) CursorPastEnd → ℕ
plain_number (Ok seen) = 0
plain_number (Err e) = 16

abbrev pub plain_byte : Result (Option ℕ) CursorPastEnd → Option ℕ
plain_byte (Ok seen) = seen
plain_byte (Err e) = None

abbrev pub plain_outcome_of : Answer → PlainOutcome
plain_outcome_of a =
    record { refusal = plain_number a.report.found; byte = plain_byte a.report.found; taken = a.report.taken; passed = a.report.passed; cursor = a.cursor.cursor }

unfoldable pub plain_peek_of : List ℕ → ℕ → PlainOutcome
plain_peek_of s at =
    cond (nat_le at (length s))
    (record { refusal = 0; byte = byte_at s at; taken = 0; passed = 0; cursor = at })
    (record { refusal = 16; byte = None; taken = 0; passed = 0; cursor = at })

-- how many bytes a take takes where a peek sees this
abbrev pub taken_of : Option ℕ → ℕ
taken_of None = 0
taken_of (Some b) = 1

abbrev pub plain_take_byte : PlainOutcome → Option ℕ → PlainOutcome
plain_take_byte seen None = seen
plain_take_byte seen (Some b) = record { refusal = 0; byte = Some b; taken = 1; passed = 0; cursor = seen.cursor + 1 }

unfoldable pub plain_next_of : List ℕ → ℕ → PlainOutcome
plain_next_of s at = plain_take_byte (plain_peek_of s at) (plain_peek_of s at).byte

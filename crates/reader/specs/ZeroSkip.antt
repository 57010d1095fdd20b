-- The zero skip (document 01, "Readers"): reads of `0`, each raising the count, until one fails. Assumes nothing.
use Rattle.std.specs.Prelude.{ℕ, Bool, cond, List, [], ◌∷◌, length, ◌==◌, Option, Some, None}
use Rattle.word.specs.Check.{first_failing}
use Rattle.reader.specs.declared.state.Reader.{Reader}
use Rattle.reader.specs.declared.rule.Flags.{Flags}
use Rattle.reader.specs.declared.state.State.{State}
use Rattle.reader.specs.Reading.{Reading}
use Rattle.reader.specs.State.{counted_by}
use Rattle.reader.specs.Answer.{Outcome, SkipOutcome}
use Rattle.reader.specs.Calls.{line16, line17, line18, line_consecutive, read_if_of}
use Rattle.reader.specs.Repeat.{until_none, repeated}

-- It tests 16, 17, 18, then 12 to 14 for the reader's own flags.
unfoldable pub skip_refusal : Flags → List ℕ → State → Reader → ℕ
skip_refusal f s st r = first_failing (line16 s st ∷ line17 st ∷ line18 r ∷ line_consecutive f r ∷ [])

-- the byte `0`
abbrev pub is_zero : ℕ → Bool
is_zero b = b == 48

-- a read that took a byte raises the reader's count, also where the reader has no flag
abbrev pub raised : Reader → Outcome → Option ℕ → Outcome
raised r o None = o
raised r o (Some b) =
    record { refusal = o.refusal; byte = o.byte; taken = o.taken; passed = o.passed; state = counted_by o.state r }

-- one read of a zero skip; it fails where it is declined, and at the end
unfoldable pub zero_read_of : Reading → List ℕ → Reader → State → Outcome
zero_read_of m s r st = raised r (read_if_of m s st r is_zero) (read_if_of m s st r is_zero).byte

-- The reads of a zero skip, in order; the last one fails. No more of them take a byte than the buffer has.
unfoldable pub zero_reads_of : Reading → List ℕ → State → Reader → List Outcome
zero_reads_of m s st r = zero_read_of m s r st ∷ until_none (length s) (zero_read_of m s r) (zero_read_of m s r st)

-- The answer is how many zeros were taken; its taken and passed are the sums of its reads', the failed one included.
abbrev pub skipped : Outcome → SkipOutcome
skipped o = record { refusal = 0; zeros = Some o.taken; taken = o.taken; passed = o.passed; state = o.state }

abbrev pub refused_skip : ℕ → State → SkipOutcome
refused_skip number st = record { refusal = number; zeros = None; taken = 0; passed = 0; state = st }

unfoldable pub skip_zeros_of : Reading → List ℕ → State → Reader → SkipOutcome
skip_zeros_of m s st r =
    cond (skip_refusal m.flags s st r == 0)
    (skipped (repeated (length s) (zero_read_of m s r) st))
    (refused_skip (skip_refusal m.flags s st r) st)

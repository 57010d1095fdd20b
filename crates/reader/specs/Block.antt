-- The block take (document 01, "Passing"). Assumes nothing.
use Rattle.std.specs.Prelude.{ℕ, ◌+◌, ◌-◌, min, cond, List, [], ◌∷◌, length, take, drop, ◌==◌, Option, Some, None}
use Rattle.std.specs.Borrow.{Bor}
use Rattle.word.specs.Check.{first_failing}
use Rattle.reader.specs.declared.state.Reader.{Reader}
use Rattle.reader.specs.declared.rule.Flags.{Flags}
use Rattle.reader.specs.declared.state.State.{State}
use Rattle.reader.specs.Reading.{Reading, reading_for, has_any_flag}
use Rattle.reader.specs.State.{moved_to}
use Rattle.reader.specs.Answer.{BlockOutcome}
use Rattle.reader.specs.Calls.{line16, line17, line18}
use Rattle.reader.specs.Part.{PartOf}

-- Block takes test 16, 17 and 18 only.
unfoldable pub block_refusal : List ℕ → State → Reader → ℕ
block_refusal s st r = first_failing (line16 s st ∷ line17 st ∷ line18 r ∷ [])

-- a block of k bytes, none, and a refusal; the last two stand for 0 taken and 0 passed
abbrev pub block_of : ℕ → State → BlockOutcome
block_of k st = record { refusal = 0; block = Some k; taken = k; passed = 0; state = moved_to st (st.cursor + k) }

abbrev pub no_block : State → BlockOutcome
no_block st = record { refusal = 0; block = None; taken = 0; passed = 0; state = st }

abbrev pub refused_block : ℕ → State → BlockOutcome
refused_block number st = record { refusal = number; block = None; taken = 0; passed = 0; state = st }

-- A reader with any flag answers none and stays; one without any takes min(n, bytes left).
abbrev pub block_from : Flags → List ℕ → State → ℕ → BlockOutcome
block_from f s st n = cond (has_any_flag f) (no_block st) (block_of (min n (length s - st.cursor)) st)

unfoldable pub take_n_of : Reading → List ℕ → State → Reader → ℕ → BlockOutcome
take_n_of m s st r n =
    cond (block_refusal s st r == 0) (block_from m.flags s st n) (refused_block (block_refusal s st r) st)

-- The part of the caller's buffer that a block is; empty for none or a refusal.
abbrev pub part_at : List ℕ → ℕ → Option ℕ → List ℕ
part_at s place None = []
part_at s place (Some k) = take k (drop place s)

unfoldable pub take_n_part : Reading → List ℕ → State → Reader → ℕ → List ℕ
take_n_part m s st r n = part_at s st.cursor (take_n_of m s st r n).block

-- Where that part starts: a block at the cursor, the empty part for none or a refusal at the buffer's start.
abbrev pub part_start : ℕ → Option ℕ → ℕ
part_start cursor None = 0
part_start cursor (Some k) = cursor

-- p is the part of the lent slice that a block take takes
abbrev pub BlockPart : Bor (List ℕ) → State → Reader → ℕ → Bor (List ℕ) → Type 0
BlockPart lent st r n p =
    PartOf lent
    (part_start st.cursor (take_n_of (reading_for st r) lent.now st r n).block)
    (take_n_part (reading_for st r) lent.now st r n)
    p

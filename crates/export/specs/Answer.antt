-- An answer as it is written to a caller, in four words. Assumes nothing.
use Rattle.std.specs.Prelude.{ℕ, List, [], ◌∷◌, Option, Some, None, slice_index}
use Rattle.reader.specs.Answer.{Outcome, ReadOutcome, SkipOutcome, BlockOutcome}
use Rattle.cells.specs.DigitRun.{RunOutcome}

-- whether there is something, and what it is, or without it what the caller had there
abbrev pub is_there : Option ℕ → ℕ
is_there None = 0
is_there (Some b) = 1

abbrev pub or_old : ℕ → Option ℕ → ℕ
or_old old None = old
or_old old (Some b) = b

-- of a call that answers a byte: whether there is one, the byte, how many bytes were taken, how many separators passed
abbrev pub byte_words : List ℕ → Outcome → List ℕ
byte_words old o = is_there o.byte ∷ or_old (slice_index old 1) o.byte ∷ o.taken ∷ o.passed ∷ []

-- how a conditional read ended: 0 the end, 1 taken, 2 declined
abbrev pub how_read : (byte seen : Option ℕ) → ℕ
how_read (Some b) seen = 1
how_read None (Some b) = 2
how_read None None = 0

-- of a conditional read: how it ended, the byte taken or declined, taken, passed
abbrev pub read_words : List ℕ → ReadOutcome → List ℕ
read_words old o = how_read o.outcome.byte o.seen ∷ or_old (slice_index old 1) o.seen ∷ o.outcome.taken ∷ o.outcome.passed ∷ []

-- of a zero skip: 0, how many zeros, taken, passed
abbrev pub zeros_words : List ℕ → SkipOutcome → List ℕ
zeros_words old o = 0 ∷ or_old (slice_index old 1) o.zeros ∷ o.taken ∷ o.passed ∷ []

-- of a digit run: whether there is a value, the value, how many digits were taken, passed
abbrev pub value_words : List ℕ → RunOutcome → List ℕ
value_words old o = is_there o.value ∷ or_old (slice_index old 1) o.value ∷ o.taken ∷ o.passed ∷ []

-- where a block begins that is taken at a cursor
abbrev pub block_place : ℕ → Option ℕ → Option ℕ
block_place cursor None = None
block_place cursor (Some k) = Some cursor

-- of a block take at a cursor: whether there is a block, where it begins, how many bytes it has, passed
abbrev pub block_words : List ℕ → ℕ → BlockOutcome → List ℕ
block_words old cursor o = is_there o.block ∷ or_old (slice_index old 1) (block_place cursor o.block) ∷ o.taken ∷ o.passed ∷ []

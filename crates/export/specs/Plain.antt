-- The plain reader's calls for a caller who names the reader by a byte. Its state is a cursor alone, and its outcome does not depend on
-- the reader. Assumes nothing.
use Rattle.std.specs.Prelude.{ℕ, List, [], ◌∷◌, None, slice_index}
use Rattle.reader.specs.State.{reader_named}
use Rattle.reader.specs.Plain.{PlainOutcome, plain_peek_of, plain_next_of}
use Rattle.export.specs.State.{by_reader}
use Rattle.export.specs.Answer.{is_there, or_old}

abbrev pub plain_refused : ℕ → ℕ → PlainOutcome
plain_refused number at = record { refusal = number; byte = None; taken = 0; passed = 0; cursor = at }

unfoldable pub plain_peeked_by : ℕ → ℕ → List ℕ → PlainOutcome
plain_peeked_by n at s = by_reader (reader_named n) (plain_refused 19 at) (λ r. plain_peek_of s at)

unfoldable pub plain_taken_by : ℕ → ℕ → List ℕ → PlainOutcome
plain_taken_by n at s = by_reader (reader_named n) (plain_refused 19 at) (λ r. plain_next_of s at)

-- the answer's four words, as those of the other calls
abbrev pub plain_words : List ℕ → PlainOutcome → List ℕ
plain_words old o = is_there o.byte ∷ or_old (slice_index old 1) o.byte ∷ o.taken ∷ o.passed ∷ []

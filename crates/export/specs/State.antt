-- A state as a caller lends it, in eight words, and the reader that a byte names on it. Assumes nothing.
use Rattle.std.specs.Prelude.{ℕ, Bool, cond, List, [], ◌∷◌, nat_eq, Option, Some, None, slice_index}
use Rattle.reader.specs.declared.state.Reader.{Reader}
use Rattle.reader.specs.declared.state.State.{State}
use Rattle.reader.specs.State.{reader_named, fresh_of}
use Rattle.reader.specs.Open.{word_of, open_of}

-- the state that eight words hold: the word's halves, the cursor, the three counts
abbrev pub state_in : List ℕ → State
state_in w =
    record {
      format = record { lo = slice_index w 0; hi = slice_index w 1 };
      cursor = slice_index w 2;
      integer = record { 0 = slice_index w 3 };
      fraction = record { 0 = slice_index w 4 };
      exponent = record { 0 = slice_index w 5 };
    }

-- the words of a state, with the two that are no part of it
abbrev pub words_of : State → ℕ → ℕ → List ℕ
words_of st kept edition =
    st.format.lo ∷ st.format.hi ∷ st.cursor ∷ st.integer.0 ∷ st.fraction.0 ∷ st.exponent.0 ∷ kept ∷ edition ∷ []

-- a state written where a caller had the words `old`: the last two stay
abbrev pub state_words : List ℕ → State → List ℕ
state_words old st = words_of st (slice_index old 6) (slice_index old 7)

-- the numbers that name an edition
abbrev pub is_edition : ℕ → Bool
is_edition n = nat_eq n 0

-- the reader that a byte names, on a state of this edition; none where either names nothing
unfoldable pub reader_on : ℕ → ℕ → Option Reader
reader_on n edition = cond (is_edition edition) (reader_named n) None

-- What is answered by the reader that is named. Where none is, the call is refused with 19, whatever else is wrong.
abbrev pub by_reader : {A : Type 0} → Option Reader → A → (Reader → A) → A
by_reader None refusal answer = refusal
by_reader (Some r) refusal answer = answer r

-- A fresh state: 19 for an unknown edition, else the full check's number; it is written only where that is 0.
unfoldable pub fresh_number : ℕ → ℕ → ℕ → ℕ
fresh_number lo hi edition = cond (is_edition edition) (open_of lo hi).refusal 19

unfoldable pub fresh_words : ℕ → ℕ → ℕ → List ℕ → List ℕ
fresh_words lo hi edition old = cond (nat_eq (fresh_number lo hi edition) 0) (words_of (fresh_of (word_of lo hi)) 0 edition) old

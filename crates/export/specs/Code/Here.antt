-- What is under the cursor of a counted reader that is not refused, where nothing is passed (src/here.rt). Assumes nothing.
use Rattle.std.specs.Prelude.{ℕ, ◌+◌, Bool, cond, not, ◌&&◌, List, [], ◌∷◌, nat_eq, nat_le, nat_lt, length, slice_index}
use Rattle.word.specs.Bits.{bit}
use Rattle.word.specs.Word.{digit_separator}
use Rattle.reader.specs.declared.rule.Flags.{Flags}
use Rattle.reader.specs.State.{count_sum}
use Rattle.reader.specs.Reading.{flags_at, is_consecutive_alone}
use Rattle.export.specs.declared.here.Here.{Here}
use Rattle.export.specs.declared.here.Here.TheVariants.{Byte, End, Separator, Other}
use Rattle.export.specs.State.{state_in, is_edition}

-- the flags of a counted reader in the lower half, once that is shifted down by the reader's number
abbrev pub own_flags : ℕ → Flags
own_flags own = record { internal = bit own 32; leading = bit own 35; trailing = bit own 38; consecutive = bit own 41 }

-- the reader counts, and its edition is known; its flags and the state's counts are not refused
abbrev pub is_served : ℕ → List ℕ → Bool
is_served n w = nat_le n 2 && is_edition (slice_index w 7)

abbrev pub is_clear : ℕ → List ℕ → Bool
is_clear n w = not (is_consecutive_alone (flags_at (state_in w).format n)) && nat_le (count_sum (state_in w)) (state_in w).cursor

-- a byte, the end, or the word's separator
abbrev pub under_cursor : List ℕ → List ℕ → Here
under_cursor w s =
    cond (nat_lt (length s) (slice_index w 2)) Other
    (cond (nat_eq (length s) (slice_index w 2)) End
    (cond (nat_eq (slice_index s (slice_index w 2)) (digit_separator (state_in w).format)) Separator (Byte (slice_index s (slice_index w 2)))))

unfoldable pub here_of : ℕ → List ℕ → List ℕ → Here
here_of n w s = cond (is_served n w && is_clear n w) (under_cursor w s) Other

-- the words with the cursor at a place
abbrev pub place_words : List ℕ → ℕ → List ℕ
place_words w place =
    slice_index w 0 ∷ slice_index w 1 ∷ place ∷ slice_index w 3 ∷ slice_index w 4 ∷ slice_index w 5 ∷ slice_index w 6 ∷ slice_index w 7 ∷ []

-- the same, and the count of the reader n raised if a byte is counted
abbrev pub words_at : List ℕ → ℕ → Bool → ℕ → List ℕ
words_at w n counted place =
    slice_index w 0 ∷ slice_index w 1 ∷ place ∷ cond (nat_eq n 0 && counted) (slice_index w 3 + 1) (slice_index w 3)
    ∷ cond (nat_eq n 1 && counted) (slice_index w 4 + 1) (slice_index w 4) ∷ cond (nat_eq n 2 && counted) (slice_index w 5 + 1) (slice_index w 5)
    ∷ slice_index w 6 ∷ slice_index w 7 ∷ []

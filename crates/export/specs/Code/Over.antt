-- A separator under the cursor right before a digit, which a reader that has counted passes alone if it may pass between digits
-- (src/over.rt). Assumes nothing.
use Rattle.std.specs.Prelude.{ℕ, ◌+◌, Bool, true, false, cond, not, ◌||◌, List, [], ◌∷◌, nat_eq, nat_le, length, slice_index}
use Rattle.word.specs.Word.{flag, digit_separator, mantissa_radix}
use Rattle.word.specs.Digit.{is_digit}
use Rattle.export.specs.State.{state_in}
use Rattle.export.specs.Code.Here.{place_words, words_at}

abbrev pub behind : List ℕ → List ℕ → ℕ
behind w s = slice_index s (slice_index w 2 + 1)

-- the reader n has counted and may pass between digits, and the byte behind is a digit and no separator
unfoldable pub is_over : ℕ → List ℕ → List ℕ → Bool
is_over n w s =
    cond (nat_eq (digit_separator (state_in w).format) 0 || nat_eq (slice_index w (3 + n)) 0) false
    (cond (not (flag (state_in w).format (32 + n))) false
    (cond (nat_le (length s) (slice_index w 2 + 1)) false
    (cond (nat_eq (behind w s) (digit_separator (state_in w).format)) false (is_digit (behind w s) (mantissa_radix (state_in w).format)))))

-- the words that a peek and a take write there
abbrev pub over_state : ℕ → List ℕ → Bool → List ℕ
over_state n w takes = cond takes (words_at w n true (slice_index w 2 + 1 + 1)) (place_words w (slice_index w 2 + 1))

abbrev pub over_answer : List ℕ → List ℕ → Bool → List ℕ
over_answer w s takes = 1 ∷ behind w s ∷ cond takes 1 0 ∷ 1 ∷ []

-- The example of document 01's call script, as far as it is the readers': the word is accepted, and two takes and a peek of the
-- integer reader over `1_2`, by computation. Script's example prints their lines. Assumes nothing.
use Rattle.std.proofs.Common.{◌≡◌, ℕ, List, [], ◌∷◌, Some, None, refl}
use Rattle.word.specs.Bits.{bit}
use Rattle.word.specs.Word.{word, field, flag, radix_at}
use Rattle.word.specs.Digit.{digit_value, is_digit}
use Rattle.word.specs.Check.{valid_control_in, valid_control, valid_punctuation, valid_exponent_flags, consecutive_alone, radix_lines, control_lines, flag_lines, consecutive_lines, full_check}
use Rattle.reader.specs.declared.state.Reader.TheVariants.{Integer}
use Rattle.reader.specs.declared.state.State.{State}
use Rattle.reader.specs.Rule.{rule_of}
use Rattle.reader.specs.Place.{is_separator}
use Rattle.reader.specs.Reading.{flags_of, syntax_of, syntax_on, reading_with, reading_for, neighbour_of, may_pass, passed_at}
use Rattle.reader.specs.State.{count_of, moved_to, counted_by}
use Rattle.reader.specs.Answer.{Outcome}
use Rattle.reader.specs.Calls.{refusal_with, peeked, peek_of, next_of}
use Rattle.reader.specs.Open.{word_of, open_of}

abbrev pub text : List ℕ
text = 0x31 ∷ 0x5F ∷ 0x32 ∷ []

-- the halves of the word with separator `_`, radix 10 and I
abbrev pub lo : ℕ
lo = 0x0000000100000000

abbrev pub hi : ℕ
hi = 0x00000A000000005F

-- the state with this cursor and count of integer digits
abbrev pub state_at : ℕ → ℕ → State
state_at cursor count =
    record { format = word_of lo hi; cursor = cursor; integer = record { 0 = count }; fraction = record { 0 = 0 }; exponent = record { 0 = 0 } }

pub opens : open_of lo hi ≡ record { refusal = 0; state = Some (state_at 0 0) }
unfolding bit word field flag radix_at digit_value is_digit valid_control_in valid_control valid_punctuation valid_exponent_flags consecutive_alone radix_lines control_lines flag_lines consecutive_lines full_check open_of
opens = refl

abbrev pub taken : ℕ → ℕ → ℕ → ℕ → Outcome
taken byte cursor passed count = record { refusal = 0; byte = Some byte; taken = 1; passed = passed; state = state_at cursor count }

-- the first take, the second, which passes the separator, and the peek, which meets the end
pub answers
    : (next_of (reading_for (state_at 0 0) Integer) text (state_at 0 0) Integer ≡ taken 49 1 0 1)
    × (next_of (reading_for (state_at 1 1) Integer) text (state_at 1 1) Integer ≡ taken 50 3 1 2)
    × (peek_of (reading_for (state_at 3 2) Integer) text (state_at 3 2) Integer ≡ record { refusal = 0; byte = None; taken = 0; passed = 0; state = state_at 3 2 })
unfolding bit word field flag radix_at digit_value is_digit rule_of is_separator flags_of syntax_of syntax_on reading_with neighbour_of may_pass passed_at count_of moved_to counted_by refusal_with peeked peek_of next_of
answers = (refl, refl, refl)

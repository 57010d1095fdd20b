-- The proved examples of document 01, A to N: one list and one theorem about the definitions, by computation. Separator `_`, radix 10,
-- the integer reader, from a fresh state. Assumes nothing.
use Rattle.std.proofs.Common.{◌≡◌, ℕ, ◌+◌, ◌*◌, ◌^◌, List, [], ◌∷◌, map, Some, None, Option, refl}
use Rattle.word.specs.declared.format_flags.Format.{Format}
use Rattle.word.specs.Bits.{bit}
use Rattle.word.specs.Word.{word, field, flag, radix_at}
use Rattle.word.specs.Digit.{digit_value, is_digit}
use Rattle.word.specs.Check.{valid_control_in, valid_control, valid_punctuation, valid_exponent_flags, consecutive_alone, radix_lines, control_lines, flag_lines, consecutive_lines, full_check}
use Rattle.reader.specs.declared.state.Reader.TheVariants.{Integer}
use Rattle.reader.specs.declared.state.State.{State}
use Rattle.reader.specs.Rule.{rule_of}
use Rattle.reader.specs.Place.{is_separator}
use Rattle.reader.specs.Reading.{flags_of, syntax_of, syntax_on, reading_with, reading_for, neighbour_of, may_pass, passed_at}
use Rattle.reader.specs.State.{fresh_of, count_of, moved_to, counted_by}
use Rattle.reader.specs.Answer.{Outcome}
use Rattle.reader.specs.Calls.{refusal_with, peeked, peek_of, next_of}

pub data Label : Type 0 where
  A B C D E F G H J K L M N : Label

pub data Call : Type 0 where
  a_peek a_take : Call

-- what a call shows: its refusal (0 for none), the byte, how many bytes it took and separators it passed, and the cursor and the
-- integer count afterwards
pub record Shown : Type 0 where
  pub refusal : ℕ
  pub byte : Option ℕ
  pub taken : ℕ
  pub passed : ℕ
  pub cursor : ℕ
  pub count : ℕ

-- an example makes calls, or it asks for the full check of its word
pub data Shows : Type 0 where
  answers : List Shown → Shows
  check : ℕ → Shows

pub record Example : Type 0 where
  pub label : Label
  pub flags : ℕ
  pub text : List ℕ
  pub calls : List Call
  pub shows : Shows

-- the integer reader's flags
abbrev pub internal : ℕ
internal = 2 ^ 32

abbrev pub leading : ℕ
leading = 2 ^ 35

abbrev pub trailing : ℕ
trailing = 2 ^ 38

abbrev pub consecutive : ℕ
consecutive = 2 ^ 41

-- a word with these flags, mantissa radix 10 and the separator `_`
abbrev pub format_with : ℕ → Format
format_with flags = record { lo = flags; hi = 10 * 2 ^ 40 + 95 }

-- a peek that saw a byte, a take that took one, and a call that met the end; none of them refused
abbrev pub saw : ℕ → ℕ → ℕ → ℕ → Shown
saw byte cursor passed count = record { refusal = 0; byte = Some byte; taken = 0; passed = passed; cursor = cursor; count = count }

abbrev pub took : ℕ → ℕ → ℕ → ℕ → Shown
took byte cursor passed count = record { refusal = 0; byte = Some byte; taken = 1; passed = passed; cursor = cursor; count = count }

abbrev pub end : ℕ → ℕ → ℕ → Shown
end cursor passed count = record { refusal = 0; byte = None; taken = 0; passed = passed; cursor = cursor; count = count }

abbrev pub example : Label → ℕ → List ℕ → List Call → List Shown → Example
example label flags text calls shown = record { label = label; flags = flags; text = text; calls = calls; shows = answers shown }

-- the bytes of the texts: `_` is 95, `1` is 49, `2` is 50, `x` is 120
abbrev pub examples : List Example
examples =
    example A 0 [] (a_peek ∷ []) (end 0 0 0 ∷ [])
    ∷ example B internal (95 ∷ 49 ∷ []) (a_peek ∷ []) (saw 95 0 0 0 ∷ [])
    ∷ example C leading (95 ∷ 49 ∷ []) (a_peek ∷ []) (saw 49 1 1 0 ∷ [])
    ∷ example D leading (95 ∷ 95 ∷ 49 ∷ []) (a_peek ∷ []) (saw 95 0 0 0 ∷ [])
    ∷ example E (internal + leading) (95 ∷ 95 ∷ 49 ∷ []) (a_peek ∷ a_peek ∷ []) (saw 95 1 1 0 ∷ saw 95 1 0 0 ∷ [])
    ∷ example F (leading + consecutive) (95 ∷ 95 ∷ 49 ∷ []) (a_peek ∷ []) (saw 49 2 2 0 ∷ [])
    ∷ example G internal (49 ∷ 95 ∷ 50 ∷ []) (a_take ∷ a_peek ∷ []) (took 49 1 0 1 ∷ saw 50 2 1 1 ∷ [])
    ∷ example H trailing (49 ∷ 95 ∷ []) (a_take ∷ a_peek ∷ []) (took 49 1 0 1 ∷ end 2 1 1 ∷ [])
    ∷ example J (internal + leading + consecutive) (49 ∷ 95 ∷ 95 ∷ []) (a_take ∷ a_peek ∷ []) (took 49 1 0 1 ∷ end 3 2 1 ∷ [])
    ∷ example K (internal + consecutive) (49 ∷ 95 ∷ 95 ∷ []) (a_take ∷ a_peek ∷ []) (took 49 1 0 1 ∷ saw 95 1 0 1 ∷ [])
    ∷ example L (internal + trailing + consecutive) (49 ∷ 95 ∷ 120 ∷ []) (a_take ∷ a_peek ∷ []) (took 49 1 0 1 ∷ saw 120 2 1 1 ∷ [])
    ∷ example M internal (49 ∷ 95 ∷ 95 ∷ 50 ∷ []) (a_take ∷ a_take ∷ a_take ∷ []) (took 49 1 0 1 ∷ took 95 2 0 1 ∷ took 50 4 1 2 ∷ [])
    ∷ record { label = N; flags = 0; text = []; calls = []; shows = check 0 }
    ∷ []

-- the calls by the definitions
abbrev pub outcome_of_call : Call → List ℕ → State → Outcome
outcome_of_call a_peek s st = peek_of (reading_for st Integer) s st Integer
outcome_of_call a_take s st = next_of (reading_for st Integer) s st Integer

abbrev pub shown_by : Outcome → Shown
shown_by o =
    record {
      refusal = o.refusal;
      byte = o.byte;
      taken = o.taken;
      passed = o.passed;
      cursor = o.state.cursor;
      count = count_of o.state Integer;
    }

abbrev pub run : List Call → List ℕ → State → List Shown
run [] s st = []
run (call ∷ calls) s st = shown_by (outcome_of_call call s st) ∷ run calls s (outcome_of_call call s st).state

-- what the definitions show for an example
abbrev pub shown_for : Example → Shows → Shows
shown_for e (answers shown) = answers (run e.calls e.text (fresh_of (format_with e.flags)))
shown_for e (check number) = check (full_check (format_with e.flags))

pub examples_hold : map (λ (e : Example). shown_for e e.shows) examples ≡ map (λ (e : Example). e.shows) examples
unfolding bit word field flag radix_at digit_value is_digit valid_control_in valid_control valid_punctuation valid_exponent_flags consecutive_alone radix_lines control_lines flag_lines consecutive_lines full_check rule_of is_separator flags_of syntax_of syntax_on reading_with neighbour_of may_pass passed_at count_of moved_to counted_by refusal_with peeked peek_of next_of
examples_hold = refl

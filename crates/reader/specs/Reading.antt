-- What a format word says to one reader, and how many separators the reader passes at a place. Assumes nothing.
use Rattle.std.specs.Prelude.{ℕ, ◌+◌, Bool, true, false, cond, not, ◌&&◌, ◌||◌, List, drop, Option, Some, None}
use Rattle.word.specs.declared.format_flags.Format.{Format}
use Rattle.word.specs.Word.{flag, digit_separator, mantissa_radix}
use Rattle.word.specs.Digit.{is_digit}
use Rattle.reader.specs.declared.state.Reader.{Reader}
use Rattle.reader.specs.declared.state.Reader.TheVariants.{Integer, Fraction, Exponent, Special}
use Rattle.reader.specs.declared.state.State.{State}
use Rattle.reader.specs.declared.rule.Flags.{Flags}
use Rattle.reader.specs.declared.rule.Neighbour.{Neighbour}
use Rattle.std.specs.Int.NonZero.{non_zero_u8_get}
use Rattle.reader.specs.declared.passing.Separated.{Separated}
use Rattle.reader.specs.declared.passing.Syntax.{Syntax}
use Rattle.reader.specs.Rule.{rule_of}
use Rattle.reader.specs.State.{Sheet, sheet_of}
use Rattle.reader.specs.Place.{is_separator, byte_at, before, after, separator_run, nearest}

-- The flags of a counted reader, by its index: I, L, T and C from bits 32, 35, 38 and 41 on.
abbrev pub flags_at : Format → ℕ → Flags
flags_at f k = record { internal = flag f (32 + k); leading = flag f (35 + k); trailing = flag f (38 + k); consecutive = flag f (41 + k) }

-- The special reader passes as ILTC when bit 44 is set, else never.
unfoldable pub flags_of : Format → Reader → Flags
flags_of f Integer = flags_at f 0
flags_of f Fraction = flags_at f 1
flags_of f Exponent = flags_at f 2
flags_of f Special = record { internal = flag f 44; leading = flag f 44; trailing = flag f 44; consecutive = flag f 44 }

-- What a word says to one reader, as numbers. D is judged by the mantissa radix, for the exponent reader too.
unfoldable pub syntax_of : Format → Reader → Syntax
syntax_of f r = record { separator = digit_separator f; radix = mantissa_radix f; flags = flags_of f r }

-- The same as a meaning. Calls and histories are defined over any reading.
pub record Reading : Type 0 where
  pub separator : ℕ
  pub flags : Flags
  pub rule : Bool → Neighbour → Neighbour → Bool
  pub digit : ℕ → Bool

unfoldable pub reading_with : Syntax → Reading
reading_with x =
    record { separator = x.separator; flags = x.flags; rule = rule_of x.flags; digit = λ b. is_digit b x.radix }

-- what a word with a separator says to a reader
abbrev pub syntax_in : Separated → Syntax
syntax_in x = record { separator = non_zero_u8_get x.separator; radix = x.radix; flags = x.flags }

-- the reading of document 01
abbrev pub reading_of : Format → Reader → Reading
reading_of f r = reading_with (syntax_of f r)

-- What a sheet says to one reader, and so a state: calls given a state read by it, calls given a word alone by the word.
unfoldable pub syntax_on : Sheet → Reader → Syntax
syntax_on sheet r = syntax_of sheet.format r

abbrev pub reading_on : Sheet → Reader → Reading
reading_on sheet r = reading_with (syntax_on sheet r)

abbrev pub syntax_for : State → Reader → Syntax
syntax_for st r = syntax_on (sheet_of st) r

abbrev pub reading_for : State → Reader → Reading
reading_for st r = reading_on (sheet_of st) r

abbrev pub has_any_flag : Flags → Bool
has_any_flag f = f.internal || f.leading || f.trailing || f.consecutive

-- "Consecutive alone"
abbrev pub is_consecutive_alone : Flags → Bool
is_consecutive_alone f = f.consecutive && not f.internal && not f.leading && not f.trailing

-- what a rule asks of a neighbour; beyond either end there is no byte, and D and S are false
unfoldable pub neighbour_of : Reading → Option ℕ → Neighbour
neighbour_of m None = record { exists = false; digit = false; separator = false }
neighbour_of m (Some b) = record { exists = true; digit = m.digit b; separator = is_separator m.separator b }

abbrev pub previous : Reading → List ℕ → ℕ → Neighbour
previous m s place = neighbour_of m (nearest m.separator m.flags.consecutive (before s place))

abbrev pub following : Reading → List ℕ → ℕ → Neighbour
following m s place = neighbour_of m (nearest m.separator m.flags.consecutive (after s place))

-- The reader may pass at this place: the buffer has a separator there, and the rule holds.
abbrev pub passes_byte : Reading → List ℕ → Bool → ℕ → Option ℕ → Bool
passes_byte m s is_first place None = false
passes_byte m s is_first place (Some b) = is_separator m.separator b && m.rule is_first (previous m s place) (following m s place)

unfoldable pub may_pass : Reading → List ℕ → Bool → ℕ → Bool
may_pass m s is_first place = passes_byte m s is_first place (byte_at s place)

-- How many separators are passed there: none, one, or with the consecutive flag the run up to the first other byte or the end.
unfoldable pub passed_at : Reading → List ℕ → Bool → ℕ → ℕ
passed_at m s is_first place =
    cond (may_pass m s is_first place) (cond m.flags.consecutive (separator_run m.separator (drop place s)) 1) 0

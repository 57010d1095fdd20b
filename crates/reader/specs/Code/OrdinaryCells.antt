-- The quick way through a column (crates/reader/src/column.rt): which words and cells it serves, and what it counts there. That it
-- answers the column's definition is shown in proofs/column/OrdinaryCell.antt. Assumes nothing.
use Rattle.std.specs.Prelude.{◌≡◌, ℕ, ◌+◌, ◌-◌, ◌<◌, ◌≤◌, Bool, true, false, not, ◌&&◌, ◌||◌, List, [], ◌∷◌, length, drop, ◌==◌, ◌≢◌, nat_le, slice_index}
use Rattle.word.specs.Digit.{is_digit}
use Rattle.word.specs.declared.format_flags.Format.{Format}
use Rattle.reader.specs.declared.state.Reader.{Reader}
use Rattle.reader.specs.declared.rule.Neighbour.{Neighbour}
use Rattle.reader.specs.declared.passing.Syntax.{Syntax}
use Rattle.reader.specs.declared.pairs.Pairs.{Pairs}
use Rattle.reader.specs.declared.column.Totals.{Totals}
use Rattle.reader.specs.declared.column.Reached.{Reached}
use Rattle.reader.specs.Rule.{rule_of}
use Rattle.reader.specs.Place.{is_separator}
use Rattle.reader.specs.Reading.{reading_with, has_any_flag}
use Rattle.reader.specs.State.{fresh_of, is_counted}
use Rattle.reader.specs.Calls.{refusal_with}
use Rattle.reader.specs.History.{digits_in}
use Rattle.reader.specs.Code.Pairs.{pairs_of}
use Rattle.reader.specs.Column.{part_from, add_totals, column_from}

-- The reader counts digits, the separator is no digit, and where runs are passed the buffer has none: no two separators stand side by
-- side.
pub record Countable (x : Syntax) (r : Reader) (s : List ℕ) : Type 0 where
  pub counts : (has_any_flag x.flags && is_counted r) ≡ true
  pub positive : 0 < x.separator
  pub apart : is_digit x.separator x.radix ≡ false
  pub single :
      x.flags.consecutive ≡ true
      → (i : ℕ) → i + 1 < length s → slice_index s i ≡ x.separator → slice_index s (i + 1) ≢ x.separator

-- A cell that begins with a digit and does not end with a separator; an empty one is ordinary too.
pub record Ordinary (x : Syntax) (cell : List ℕ) : Type 0 where
  pub begins : 0 < length cell → is_digit (slice_index cell 0) x.radix ≡ true
  pub ends : 0 < length cell → is_separator x.separator (slice_index cell (length cell - 1)) ≡ false

-- what stands behind a separator: a digit, another separator, or any other byte
abbrev pub a_byte : Bool → Bool → Neighbour
a_byte digit separator = record { exists = true; digit = digit; separator = separator }

abbrev pub nothing_before : Neighbour
nothing_before = record { exists = false; digit = false; separator = false }

-- the separators that a reader who has counted passes, each with the byte behind it
abbrev pub passing : Syntax → Pairs
passing x =
    record {
      separator = x.separator;
      radix = x.radix;
      any = false;
      digits = rule_of x.flags false nothing_before (a_byte true false);
      separators = rule_of x.flags false nothing_before (a_byte false true);
      others = rule_of x.flags false nothing_before (a_byte false false);
    }

-- two separators side by side
abbrev pub doubles : Syntax → Pairs
doubles x =
    record { separator = x.separator; radix = x.radix; any = false; digits = false; separators = true; others = false }

-- The cells take up the buffer: the last of them ends where it does, or past that.
abbrev pub fills_of : List ℕ → List ℕ → Bool
fills_of s [] = false
fills_of s (end ∷ []) = nat_le (length s) end
fills_of s (end ∷ next ∷ ends) = fills_of s (next ∷ ends)

-- Which way is taken: the quick one where the buffer is `Countable`, and with the consecutive flag only where the cells fill it.
abbrev pub is_served : Syntax → Reader → Bool
is_served x r = ((has_any_flag x.flags && is_counted r) && not (x.separator == 0)) && not (is_digit x.separator x.radix)

unfoldable pub is_quick : Syntax → Reader → List ℕ → Bool → Bool
is_quick x r s filled = is_served x r && (not x.flags.consecutive || (filled && pairs_of (doubles x) s == 0))

-- any byte with a digit behind it
abbrev pub before_digits : Syntax → Pairs
before_digits x =
    record { separator = x.separator; radix = x.radix; any = true; digits = true; separators = false; others = false }

-- the digits of a list
abbrev pub digits_of : ℕ → List ℕ → ℕ
digits_of radix l = digits_in (λ b. is_digit b radix) l

-- what ordinary cells side by side add
abbrev pub ordinary_totals : Syntax → List ℕ → Totals
ordinary_totals x l =
    record { taken = length l - pairs_of (passing x) l; passed = pairs_of (passing x) l; digits = digits_of x.radix l }

-- From the k-th cell, which begins at `start`, a stretch of ordinary cells goes up to another.
pub record Stretch (x : Syntax) (r : Reader) (s ends : List ℕ) (k start : ℕ) (to : Reached) : Type 0 where
  pub onward : k ≤ to.cell
  pub cells : to.cell ≤ length ends
  pub ordered : start ≤ to.at
  pub inside : to.at ≤ length s
  pub totals :
      (f : Format) → refusal_with x.flags s (fresh_of f) r ≡ 0
      → column_from (reading_with x) f r s start (drop k ends)
      ≡ add_totals (ordinary_totals x (part_from s start to.at)) (column_from (reading_with x) f r s to.at (drop to.cell ends))

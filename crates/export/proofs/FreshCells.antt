-- A fresh state lent as words, and a counted reader on it that may pass between digits: for the quick ways of grouped cells, takes to the
-- end and digit runs. Assumes nothing.
use Rattle.std.specs.Prelude.{Some}
use mathlib.Core.Path.{◌≡◌, refl}
use mathlib.Core.Bool.{Bool, true, false, not, ◌&&◌}
use mathlib.Core.List.{List, [], ◌∷◌}
use Prim.Native.Nat.{ℕ, ◌+◌, ◌<◌, ◌≤◌}
use native.Mathlib.Omega.{arith}
use lib.ListN.{length, get_or}
use borrow.Author.Tests.{le-leb}
use Rattle.word.specs.declared.format_flags.Format.{Format}
use Rattle.word.specs.Word.{flag, digit_separator, mantissa_radix}
use Rattle.word.specs.Check.{line, first_failing}
use Rattle.reader.specs.declared.state.Reader.{Reader}
use Rattle.reader.specs.declared.passing.Syntax.{Syntax}
use Rattle.reader.specs.Reading.{syntax_of}
use Rattle.reader.specs.State.{fresh_of, is_counted}
use Rattle.reader.specs.Calls.{consecutive_number}
use Rattle.reader.specs.ZeroSkip.{skip_refusal}
use Rattle.export.specs.State.{state_in, reader_on}
use Rattle.export.specs.Code.GroupedCell.{Between}
use Rattle.export.proofs.here.CountedReaders.{counted_reader, named_on}

-- to such a reader a fresh state is not refused
pub fresh_clear : (x : Syntax) (s : List ℕ) (f : Format) (r : Reader) → x.flags.internal ≡ true → is_counted r ≡ true
    → skip_refusal x.flags s (fresh_of f) r ≡ 0
unfolding skip_refusal
fresh_clear x s f r internal counted = rw (le-leb 0 (length s) (omega arith), counted, internal) (go x.flags.consecutive) where
  go : (c : Bool) → first_failing (line (consecutive_number r) (not (c && false && not x.flags.leading && not x.flags.trailing)) ∷ []) ≡ 0
  go true = refl
  go false = refl

module _ (n : ℕ) (w : List ℕ) (low : n ≤ 2) where
  abbrev pub word_in : Format
  word_in = record { lo = get_or w 0 0; hi = get_or w 1 0 }

  abbrev pub reader_in : Reader
  reader_in = (counted_reader n low).reader

  pub fresh_in : get_or w 2 0 ≡ 0 → get_or w 3 0 ≡ 0 → get_or w 4 0 ≡ 0 → get_or w 5 0 ≡ 0 → state_in w ≡ fresh_of word_in
  fresh_in cursor integer fraction exponent = rw (cursor, integer, fraction, exponent) refl

  pub reader_of_lem : get_or w 7 0 ≡ 0 → reader_on n (get_or w 7 0) ≡ Some reader_in
  reader_of_lem edition = named_on n (get_or w 7 0) low (rw edition)

  pub between_in : (radix : ℕ) → mantissa_radix word_in ≡ radix → 0 < digit_separator word_in → flag word_in (32 + n) ≡ true
      → Between (syntax_of word_in reader_in) (digit_separator word_in) radix reader_in
  unfolding syntax_of
  between_in radix own positive internal =
      record {
        own_separator = refl;
        own_radix = own;
        internal = rw ((counted_reader n low).flags word_in) internal;
        counted = (counted_reader n low).counts;
        positive = positive;
      }

  -- whether it passes several separators at once
  pub runs_in : (syntax_of word_in reader_in).flags.consecutive ≡ flag word_in (41 + n)
  unfolding syntax_of
  runs_in = rw ((counted_reader n low).flags word_in)

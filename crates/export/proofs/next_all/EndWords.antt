-- The words that are written where a cell is taken by numbers are those of the call: for `pawhetino_next_all` and `next_all_runs`. Assumes
-- nothing.
use mathlib.Core.Path.{◌≡◌, ◌∙◌, refl, sym}
use mathlib.Core.Bool.{true}
use mathlib.Core.List.{List, [], ◌∷◌}
use Prim.Native.Nat.{ℕ, ◌+◌, ◌-◌}
use native.Mathlib.Omega.{arith}
use lib.ListN.{length, get_or}
use Rattle.word.specs.declared.format_flags.Format.{Format}
use Rattle.word.specs.Word.{flag, digit_separator, mantissa_radix}
use Rattle.reader.specs.declared.state.Reader.{Reader}
use Rattle.reader.specs.declared.passing.Syntax.{Syntax}
use Rattle.reader.specs.Reading.{syntax_of, syntax_on, reading_with}
use Rattle.reader.specs.State.{fresh_of}
use Rattle.reader.specs.Calls.{next_all_of}
use Rattle.reader.specs.Code.TakeSums.{sums_outcome}
use Rattle.export.specs.State.{state_words}
use Rattle.export.specs.Answer.{byte_words}
use Rattle.export.specs.Calls.{taken_all_by}
use Rattle.export.specs.Code.FreshWords.{FreshWords, end_words}
use Rattle.export.specs.Code.GroupedCell.{Between, GroupedCell, SpacedCell}
use Rattle.export.proofs.FreshCells.{word_in, reader_in, fresh_in, reader_of_lem, between_in, runs_in}
use Rattle.export.proofs.here.CountedReaders.{end_words_lem}

module _ (n : ℕ) (w s : List ℕ) (fresh : FreshWords n w) where
  abbrev f : Format
  f = word_in n w fresh.low

  abbrev r : Reader
  r = reader_in n w fresh.low

  abbrev x : Syntax
  x = syntax_of f r

  own : Between x (digit_separator f) (mantissa_radix f) r
  own = between_in n w fresh.low (mantissa_radix f) refl fresh.positive fresh.internal

  module _ (count passed : ℕ) where
    -- the words are those of the call where the numbers are those of its takes
    module _ (told : sums_outcome (fresh_of f) r (record { at = length s; count = count; passed = passed }) ≡ next_all_of (reading_with x) s (fresh_of f) r) where
      taken_all : taken_all_by n w s ≡ sums_outcome (fresh_of f) r (record { at = length s; count = count; passed = passed })
      unfolding taken_all_by syntax_on
      taken_all =
          rw (reader_of_lem n w fresh.low fresh.edition, fresh_in n w fresh.low fresh.cursor fresh.integer fresh.fraction fresh.exponent) (sym told)

      written : (old : List ℕ)
          → (0 ≡ (taken_all_by n w s).refusal)
          × ((end_words n (length s) count w ≡ state_words w (taken_all_by n w s).state)
          × ((0 ∷ get_or old 1 0 ∷ (length s - passed) ∷ passed ∷ []) ≡ byte_words old (taken_all_by n w s)))
      written old =
          let whole : length s - 0 - passed ≡ length s - passed = omega arith in
          rw taken_all (refl, (end_words_lem n fresh.low w (fresh_of f) (length s) count refl refl refl, rw whole refl))

    pub grouped_written : GroupedCell (digit_separator f) (mantissa_radix f) s count passed → (old : List ℕ)
        → (0 ≡ (taken_all_by n w s).refusal)
        × ((end_words n (length s) count w ≡ state_words w (taken_all_by n w s).state)
        × ((0 ∷ get_or old 1 0 ∷ (length s - passed) ∷ passed ∷ []) ≡ byte_words old (taken_all_by n w s)))
    grouped_written cell = written (cell x f r own)

    pub spaced_written : SpacedCell (digit_separator f) (mantissa_radix f) s count passed → flag f (41 + n) ≡ true → (old : List ℕ)
        → (0 ≡ (taken_all_by n w s).refusal)
        × ((end_words n (length s) count w ≡ state_words w (taken_all_by n w s).state)
        × ((0 ∷ get_or old 1 0 ∷ (length s - passed) ∷ passed ∷ []) ≡ byte_words old (taken_all_by n w s)))
    spaced_written cell together = written (cell x f r own (runs_in n w fresh.low ∙ together))

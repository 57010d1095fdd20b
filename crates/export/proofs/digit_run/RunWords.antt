-- The words that are written where a grouped cell's digits go by numbers are those of the run: for `pawhetino_digit_run`. Assumes nothing.
use Rattle.std.specs.Prelude.{Some}
use mathlib.Core.Path.{◌≡◌, refl, sym}
use mathlib.Core.List.{List, [], ◌∷◌}
use Prim.Native.Nat.{ℕ}
use Rattle.word.specs.declared.format_flags.Format.{Format}
use Rattle.word.specs.Word.{digit_separator, mantissa_radix}
use Rattle.reader.specs.declared.state.Reader.{Reader}
use Rattle.reader.specs.Reading.{syntax_of, syntax_on}
use Rattle.reader.specs.State.{fresh_of}
use Rattle.reader.proofs.state.Updates.{state_at}
use Rattle.export.specs.State.{state_words}
use Rattle.export.specs.Answer.{value_words}
use Rattle.export.specs.Calls.{digit_run_by}
use Rattle.export.specs.Code.FreshWords.{FreshWords, end_words}
use Rattle.export.specs.Code.GroupedRun.{GroupedRun}
use Rattle.export.proofs.FreshCells.{word_in, reader_in, fresh_in, reader_of_lem, between_in}
use Rattle.export.proofs.here.CountedReaders.{end_words_lem}

module _ (n : ℕ) (w s : List ℕ) (fresh : FreshWords n w) where
  abbrev f : Format
  f = word_in n w fresh.low

  abbrev r : Reader
  r = reader_in n w fresh.low

  module _ (at value count passed : ℕ) (decimal : mantissa_radix f ≡ 10) (run : GroupedRun (digit_separator f) 10 s at value count passed) where
    read : digit_run_by n w s ≡ record { refusal = 0; value = Some value; taken = count; passed = passed; state = state_at (fresh_of f) r at count }
    unfolding digit_run_by syntax_on syntax_of
    read =
        rw (reader_of_lem n w fresh.low fresh.edition, fresh_in n w fresh.low fresh.cursor fresh.integer fresh.fraction fresh.exponent)
        (sym (run (syntax_of f r) f r (between_in n w fresh.low 10 decimal fresh.positive fresh.internal)))

    pub run_written : (old : List ℕ)
        → record {
          number : 0 ≡ (digit_run_by n w s).refusal;
          moved : end_words n at count w ≡ state_words w (digit_run_by n w s).state;
          written : (1 ∷ value ∷ count ∷ passed ∷ []) ≡ value_words old (digit_run_by n w s);
        }
    run_written old = rw read (record { number = refl; moved = end_words_lem n fresh.low w (fresh_of f) at count refl refl refl; written = refl })

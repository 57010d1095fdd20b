-- What the calls of one byte answer where a reader that counts sees a byte that is no separator, or the end, and the words that they
-- write: for their quick ways. Assumes nothing.
use Rattle.std.specs.Prelude.{Option, Some, None}
use mathlib.Core.Path.{◌≡◌, ◌∙◌, refl, sym, ap}
use mathlib.Core.Bool.{Bool, true, false, cond, ◌&&◌}
use mathlib.Core.List.{List, [], ◌∷◌}
use Prim.Native.Nat.{ℕ, zero, suc, ◌+◌, ◌/◌, ◌^◌, ◌<◌}
use lib.ListN.{length, get_or}
use borrow.Author.Tests.{le-leb}
use Rattle.word.specs.declared.format_flags.Format.{Format}
use Rattle.word.specs.Word.{mantissa_radix}
use Rattle.word.specs.Digit.{is_digit}
use Rattle.reader.specs.declared.state.Reader.{Reader}
use Rattle.reader.specs.declared.state.State.{State}
use Rattle.reader.specs.Reading.{Reading, flags_of, syntax_of, syntax_on, reading_with, reading_for, has_any_flag, is_consecutive_alone}
use Rattle.reader.specs.State.{count_sum, moved_to, counted_by}
use Rattle.reader.specs.Answer.{Outcome}
use Rattle.reader.specs.Repeat.{until_none}
use Rattle.reader.specs.Calls.{peek_of, next_of, taken_from, read_if_of}
use Rattle.reader.specs.ZeroSkip.{is_zero, skip_refusal, zero_read_of, skip_zeros_of}
use Rattle.export.specs.State.{state_in, state_words, reader_on}
use Rattle.export.specs.Answer.{byte_words, read_words}
use Rattle.export.specs.Calls.{peeked_by, taken_by, read_by, skipped_by}
use Rattle.export.specs.Code.Here.{own_flags, place_words, words_at}
use Rattle.export.proofs.here.CountedReaders.{counted_reader, named_on, own_flags_lem, at_words}
use Rattle.export.proofs.here.LentWords.{unmoved}
use Rattle.export.proofs.here.Sight.{Sight}

-- a call that answers no byte is not made again
until_none_lem : (n : ℕ) (call : State → Outcome) (o : Outcome) → o.byte ≡ None → until_none n call o ≡ []
unfolding until_none
until_none_lem zero call o e = refl
until_none_lem (suc n) call o e = rw e

-- what is seen, as a peek answers it
abbrev pub seen_at : List ℕ → Option ℕ → Outcome
seen_at w seen = record { refusal = 0; byte = seen; taken = 0; passed = 0; state = state_in w }

module _ (n : ℕ) (w s : List ℕ) (seen : Option ℕ) (here : Sight n w s seen) where
  abbrev r : Reader
  r = (counted_reader n here.low).reader

  abbrev f : Format
  f = (state_in w).format

  by : reader_on n (get_or w 7 0) ≡ Some r
  by = named_on n (get_or w 7 0) here.low here.edition

  peek_here : peek_of (reading_for (state_in w) r) s (state_in w) r ≡ seen_at w seen
  peek_here = here.peeks r ((counted_reader n here.low).flags f)

  pub peeked_here : peeked_by n w s ≡ seen_at w seen
  unfolding peeked_by
  peeked_here = rw (by, peek_here)

-- at the end a take and a read answer what a peek does
module _ (n : ℕ) (w s : List ℕ) (here : Sight n w s None) where
  pub taken_end : taken_by n w s ≡ seen_at w None
  unfolding taken_by next_of
  taken_end = rw (by n w s None here, peek_here n w s None here)

  read_end : (wanted : ℕ → Bool) → read_by n w s wanted ≡ record { outcome = seen_at w None; seen = None }
  unfolding read_by read_if_of
  read_end wanted = rw (by n w s None here, peek_here n w s None here)

  pub read_end_words : (wanted : ℕ → Bool) → length w ≡ 8 → (old : List ℕ)
      → record {
        number : 0 ≡ (read_by n w s wanted).outcome.refusal;
        moved : w ≡ state_words w (read_by n w s wanted).outcome.state;
        written : (0 ∷ get_or old 1 0 ∷ 0 ∷ 0 ∷ []) ≡ read_words old (read_by n w s wanted);
      }
  read_end_words wanted eight old = rw (read_end wanted) (record { number = refl; moved = unmoved w eight; written = refl })

-- a byte
module _ (n : ℕ) (w s : List ℕ) (b : ℕ) (here : Sight n w s (Some b)) where
  abbrev own : Reader
  own = r n w s (Some b) here

  -- whether it is counted
  abbrev counted : Bool
  counted = has_any_flag (flags_of (state_in w).format own) && is_digit b (mantissa_radix (state_in w).format)

  abbrev past : Bool → State
  past up = cond up (counted_by (moved_to (state_in w) (get_or w 2 0 + 1)) own) (moved_to (state_in w) (get_or w 2 0 + 1))

  state_past : taken_from (reading_for (state_in w) own) own b (state_in w) ≡ past counted
  unfolding reading_with syntax_on syntax_of
  state_past = refl

  taken_byte : taken_by n w s ≡ record { refusal = 0; byte = Some b; taken = 1; passed = 0; state = past counted }
  unfolding taken_by next_of
  taken_byte = rw (by n w s (Some b) here, peek_here n w s (Some b) here, state_past)

  -- the words that a take writes
  pub next_words : (old : List ℕ) (up : Bool) → up ≡ (has_any_flag (own_flags (get_or w 0 0 / 2 ^ n)) && is_digit b (mantissa_radix (state_in w).format)) → get_or w 0 0 < 2 ^ 64
      → record { number : 0 ≡ (taken_by n w s).refusal; moved : words_at w n up (get_or w 2 0 + 1) ≡ state_words w (taken_by n w s).state; written : (1 ∷ b ∷ 1 ∷ 0 ∷ []) ≡ byte_words old (taken_by n w s) }
  next_words old up known small =
      let flagged : has_any_flag (own_flags (get_or w 0 0 / 2 ^ n)) ≡ has_any_flag (flags_of (state_in w).format own) =
      ap has_any_flag (own_flags_lem (state_in w).format n here.low small ∙ sym ((counted_reader n here.low).flags (state_in w).format)) in
      let same : up ≡ counted = known ∙ rw flagged in
      rw (taken_byte, same) (record { number = refl; moved = at_words n here.low w counted (get_or w 2 0 + 1); written = refl })

  -- a read of a byte that is wanted, and of one that is not
  read_taken : (wanted : ℕ → Bool) → wanted b ≡ true
      → read_by n w s wanted ≡ record { outcome = record { refusal = 0; byte = Some b; taken = 1; passed = 0; state = moved_to (state_in w) (get_or w 2 0 + 1) }; seen = Some b }
  unfolding read_by read_if_of
  read_taken wanted holds = rw (by n w s (Some b) here, peek_here n w s (Some b) here, holds)

  read_declined_lem : (wanted : ℕ → Bool) → wanted b ≡ false → read_by n w s wanted ≡ record { outcome = seen_at w None; seen = Some b }
  unfolding read_by read_if_of
  read_declined_lem wanted fails = rw (by n w s (Some b) here, peek_here n w s (Some b) here, fails)

  -- the words that they write
  pub read_taken_words : (wanted : ℕ → Bool) → wanted b ≡ true → (old : List ℕ)
      → record {
        number : 0 ≡ (read_by n w s wanted).outcome.refusal;
        moved : place_words w (get_or w 2 0 + 1) ≡ state_words w (read_by n w s wanted).outcome.state;
        written : (1 ∷ b ∷ 1 ∷ 0 ∷ []) ≡ read_words old (read_by n w s wanted);
      }
  unfolding moved_to
  read_taken_words wanted holds old = rw (read_taken wanted holds) (record { number = refl; moved = refl; written = refl })

  pub read_declined_words : (wanted : ℕ → Bool) → wanted b ≡ false → length w ≡ 8 → (old : List ℕ)
      → record {
        number : 0 ≡ (read_by n w s wanted).outcome.refusal;
        moved : w ≡ state_words w (read_by n w s wanted).outcome.state;
        written : (2 ∷ b ∷ 0 ∷ 0 ∷ []) ≡ read_words old (read_by n w s wanted);
      }
  read_declined_words wanted fails eight old =
      rw (read_declined_lem wanted fails) (record { number = refl; moved = unmoved w eight; written = refl })

-- a zero skip that finds no zero
module _ (n : ℕ) (w s : List ℕ) (seen : Option ℕ) (here : Sight n w s seen) where
  abbrev who : Reader
  who = r n w s seen here

  abbrev reading : Reading
  reading = reading_for (state_in w) who

  skips : skip_refusal reading.flags s (state_in w) who ≡ 0
  unfolding skip_refusal reading_with syntax_on syntax_of
  skips =
      let alone : is_consecutive_alone (flags_of (state_in w).format who) ≡ false =
      ap is_consecutive_alone ((counted_reader n here.low).flags (state_in w).format) ∙ here.alone in
      rw (le-leb (get_or w 2 0) (length s) here.within, le-leb (count_sum (state_in w)) (get_or w 2 0) here.fit, (counted_reader n here.low).counts, alone) refl

  pub skipped_none : zero_read_of reading s who (state_in w) ≡ seen_at w None
      → skipped_by n w s ≡ record { refusal = 0; zeros = Some 0; taken = 0; passed = 0; state = state_in w }
  unfolding skipped_by skip_zeros_of
  skipped_none first = rw (by n w s seen here, skips, first, until_none_lem (length s) (zero_read_of reading s who) (seen_at w None) refl)

pub skipped_end : (n : ℕ) (w s : List ℕ) (here : Sight n w s None)
    → skipped_by n w s ≡ record { refusal = 0; zeros = Some 0; taken = 0; passed = 0; state = state_in w }
unfolding zero_read_of read_if_of
skipped_end n w s here = skipped_none n w s None here (rw (peek_here n w s None here))

pub skipped_other : (n : ℕ) (w s : List ℕ) (b : ℕ) (here : Sight n w s (Some b)) → is_zero b ≡ false
    → skipped_by n w s ≡ record { refusal = 0; zeros = Some 0; taken = 0; passed = 0; state = state_in w }
unfolding zero_read_of read_if_of
skipped_other n w s b here other = skipped_none n w s (Some b) here (rw (peek_here n w s (Some b) here, other))

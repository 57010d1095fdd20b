-- At a separator right before a digit a reader that has counted and may pass between digits passes it alone, and sees the digit: the words
-- that are written there are those of the peek and of the take. Assumes nothing.
use Rattle.std.specs.Prelude.{Some}
use mathlib.Core.Path.{◌≡◌, ◌∙◌, refl, ap}
use mathlib.Core.Bool.{Bool, true, false, cond, not, ◌&&◌, ◌||◌}
use mathlib.Core.List.{List}
use Prim.Native.Nat.{ℕ, ◌+◌, ◌<◌}
use native.Mathlib.Omega.{arith}
use lib.Dec.{eqb, leb}
use lib.ListN.{length, get_or}
use borrow.Author.Tests.{le-leb, leb-false, eqb-false, not-false}
use Rattle.word.specs.declared.format_flags.Format.{Format}
use Rattle.word.specs.Word.{flag, digit_separator, mantissa_radix}
use Rattle.word.specs.Digit.{is_digit}
use Rattle.reader.specs.declared.state.Reader.{Reader}
use Rattle.reader.specs.Reading.{flags_at, flags_of, syntax_of, syntax_on, reading_with, has_any_flag, is_consecutive_alone, passed_at}
use Rattle.reader.specs.State.{count_of, count_sum, moved_to, counted_by}
use Rattle.reader.specs.Calls.{refusal_with, peeked, peek_of, next_of}
use Rattle.reader.proofs.passing.Places.{byte_here}
use Rattle.reader.proofs.state.Refusals.{peek_admitted}
use Rattle.export.specs.State.{state_in, state_words, reader_on}
use Rattle.export.specs.Answer.{byte_words}
use Rattle.export.specs.Calls.{peeked_by, taken_by}
use Rattle.export.specs.Code.Over.{behind, is_over, over_state, over_answer}
use Rattle.export.proofs.Booleans.{left_fails, right_fails}
use Rattle.export.proofs.DigitBehind.{lands_between}
use Rattle.export.proofs.here.CountedReaders.{counted_reader, named_on, at_words, own_count_word}
use Rattle.export.proofs.here.Sight.{OnSeparator}

over_tests : (a b c d e : Bool) → cond a false (cond b false (cond c false (cond d false e))) ≡ true
    → (a ≡ false) × (b ≡ false) × (c ≡ false) × (d ≡ false) × (e ≡ true)
over_tests false false false false e h = (refl, refl, refl, refl, h)
over_tests false false false true e h = absurd (let z : ◌≡◌ {A = ℕ} 0 1 = cc in omega arith)
over_tests false false true d e h = absurd (let z : ◌≡◌ {A = ℕ} 0 1 = cc in omega arith)
over_tests false true c d e h = absurd (let z : ◌≡◌ {A = ℕ} 0 1 = cc in omega arith)
over_tests true b c d e h = absurd (let z : ◌≡◌ {A = ℕ} 0 1 = cc in omega arith)

module _ (n : ℕ) (w s : List ℕ) (over : is_over n w s ≡ true) where
  abbrev f : Format
  f = (state_in w).format

  tests :
      ((eqb (digit_separator f) 0 || eqb (get_or w (3 + n) 0) 0) ≡ false) × (not (flag f (32 + n)) ≡ false) × (leb (length s) (get_or w 2 0 + 1) ≡ false)
      × (eqb (behind w s) (digit_separator f) ≡ false) × (is_digit (behind w s) (mantissa_radix f) ≡ true)
  unfolding is_over
  tests = over_tests _ _ _ _ _ over

  -- the byte behind lies within the buffer
  pub more : get_or w 2 0 + 1 < length s
  more = leb-false (length s) (get_or w 2 0 + 1) tests.2

  module _ (here : OnSeparator n w s) where
    abbrev r : Reader
    r = (counted_reader n here.low).reader

    flags : flags_of f r ≡ flags_at f n
    flags = (counted_reader n here.low).flags f

    internal : (flags_of f r).internal ≡ true
    internal = rw flags (not-false _ tests.1)

    positive : 0 < digit_separator f
    positive =
        let some-separator = eqb-false (digit_separator f) 0 (left_fails (eqb (digit_separator f) 0) (eqb (get_or w (3 + n) 0) 0) tests.0) in
        omega (arith, some-separator)

    counted : eqb (count_of (state_in w) r) 0 ≡ false
    counted = rw (own_count_word n here.low w) (right_fails (eqb (digit_separator f) 0) (eqb (get_or w (3 + n) 0) 0) tests.0)

    clear : refusal_with (flags_of f r) s (state_in w) r ≡ 0
    unfolding refusal_with
    clear =
        let alone : is_consecutive_alone (flags_of f r) ≡ false = ap is_consecutive_alone flags ∙ here.alone in
        rw (le-leb (get_or w 2 0) (length s) (omega (arith, here.inside)), le-leb (count_sum (state_in w)) (get_or w 2 0) here.fit, alone) refl

    passes_one : passed_at (reading_with (syntax_of f r)) s (eqb (count_of (state_in w) r) 0) (get_or w 2 0) ≡ 1
    unfolding syntax_of
    passes_one =
        let lands = lands_between (syntax_of f r) s (get_or w 2 0) here.inside positive here.equal more (eqb-false _ _ tests.3) tests.4 internal in
        rw counted (omega (arith, lands))

    admitted : peek_of (reading_with (syntax_of f r)) s (state_in w) r ≡ peeked (reading_with (syntax_of f r)) s (state_in w) r
    unfolding reading_with syntax_of
    admitted = peek_admitted (reading_with (syntax_of f r)) s (state_in w) r clear

    sees : peek_of (reading_with (syntax_of f r)) s (state_in w) r
        ≡ record { refusal = 0; byte = Some (behind w s); taken = 0; passed = 1; state = moved_to (state_in w) (get_or w 2 0 + 1) }
    unfolding peeked
    sees = admitted ∙ rw (passes_one, byte_here s (get_or w 2 0 + 1) more)

    by : reader_on n (get_or w 7 0) ≡ Some r
    by = named_on n (get_or w 7 0) here.low here.edition

    peeked_over : peeked_by n w s ≡ record { refusal = 0; byte = Some (behind w s); taken = 0; passed = 1; state = moved_to (state_in w) (get_or w 2 0 + 1) }
    unfolding peeked_by syntax_on
    peeked_over = rw (by, sees)

    counts : (has_any_flag (flags_of f r) && is_digit (behind w s) (mantissa_radix f)) ≡ true
    counts = rw (internal, tests.4)

    taken_over : taken_by n w s
        ≡ record { refusal = 0; byte = Some (behind w s); taken = 1; passed = 1; state = counted_by (moved_to (state_in w) (get_or w 2 0 + 1 + 1)) r }
    unfolding taken_by next_of syntax_on syntax_of reading_with moved_to
    taken_over = rw (by, sees, counts)

    pub peek_over_words : (old : List ℕ)
        → record { number : 0 ≡ (peeked_by n w s).refusal; moved : over_state n w false ≡ state_words w (peeked_by n w s).state; written : over_answer w s false ≡ byte_words old (peeked_by n w s) }
    unfolding moved_to
    peek_over_words old = rw peeked_over (record { number = refl; moved = refl; written = refl })

    pub next_over_words : (old : List ℕ)
        → record { number : 0 ≡ (taken_by n w s).refusal; moved : over_state n w true ≡ state_words w (taken_by n w s).state; written : over_answer w s true ≡ byte_words old (taken_by n w s) }
    next_over_words old = rw taken_over (record { number = refl; moved = at_words n here.low w true (get_or w 2 0 + 1 + 1); written = refl })

-- What a peek sees where nothing is passed, and what is known there from what `found_here` found: for the quick ways. Assumes nothing.
use Rattle.std.specs.Prelude.{Option, Some, None}
use mathlib.Core.Path.{◌≡◌, ◌∙◌, refl, sym, ap}
use mathlib.Core.Bool.{Bool, true, false, cond, not, ◌&&◌, and-eq-true_iff}
use mathlib.Core.List.{List}
use Prim.Native.Nat.{ℕ, ◌<◌, ◌≤◌}
use native.Mathlib.Nat.{add-zero}
use native.Mathlib.Omega.{arith}
use lib.Dec.{eqb, leb, ltb}
use lib.ListN.{length, get_or}
use borrow.Author.Tests.{le-leb, leb-true, ltb-false, eqb-true, eqb-false, not-true}
use Rattle.word.specs.declared.format_flags.Format.{Format}
use Rattle.word.specs.Word.{digit_separator}
use Rattle.reader.specs.declared.state.Reader.{Reader}
use Rattle.reader.specs.declared.state.State.{State}
use Rattle.reader.specs.declared.passing.Syntax.{Syntax}
use Rattle.reader.specs.Place.{byte_at}
use Rattle.reader.specs.Reading.{flags_at, flags_of, syntax_of, syntax_on, reading_with, reading_for, is_consecutive_alone, passed_at}
use Rattle.reader.specs.State.{count_of, count_sum, moved_to}
use Rattle.reader.specs.Calls.{refusal_with, peeked, peek_of}
use Rattle.reader.proofs.passing.Places.{no_separator, byte_here, no_byte}
use Rattle.reader.proofs.passing.Landings.{stays_on_other, stays_at_end}
use Rattle.reader.proofs.state.Refusals.{peek_admitted}
use Rattle.export.specs.declared.here.Here.{Here}
use Rattle.export.specs.declared.here.Here.TheVariants.{Byte, End, Separator, Other}
use Rattle.export.specs.State.{state_in, is_edition}
use Rattle.export.specs.Code.Here.{is_served, is_clear, here_of}

-- what a peek sees on a byte that is no separator, and at the end
module _ (x : Syntax) (s : List ℕ) (st : State) (r : Reader) (alone : is_consecutive_alone x.flags ≡ false) (fit : count_sum st ≤ st.cursor) where
  clear : st.cursor ≤ length s → refusal_with x.flags s st r ≡ 0
  unfolding refusal_with
  clear within = rw (le-leb st.cursor (length s) within, le-leb (count_sum st) st.cursor fit, alone) refl

  admitted : st.cursor ≤ length s → peek_of (reading_with x) s st r ≡ peeked (reading_with x) s st r
  unfolding reading_with
  admitted within = peek_admitted (reading_with x) s st r (clear within)

  looks : passed_at (reading_with x) s (eqb (count_of st r) 0) st.cursor ≡ 0
      → peeked (reading_with x) s st r ≡ record { refusal = 0; byte = byte_at s st.cursor; taken = 0; passed = 0; state = st }
  unfolding peeked moved_to
  looks none_passed = rw (none_passed, add-zero st.cursor) refl

  pub sees_byte : st.cursor < length s → (get_or s st.cursor 0 ≡ x.separator → ⊥)
      → peek_of (reading_with x) s st r ≡ record { refusal = 0; byte = Some (get_or s st.cursor 0); taken = 0; passed = 0; state = st }
  sees_byte inside differ =
      let stays = stays_on_other x s (eqb (count_of st r) 0) st.cursor inside (no_separator x.separator _ differ) in
      admitted (omega (arith, inside)) ∙ looks (omega (arith, stays)) ∙ rw (byte_here s st.cursor inside)

  pub sees_end : length s ≡ st.cursor → peek_of (reading_with x) s st r ≡ record { refusal = 0; byte = None; taken = 0; passed = 0; state = st }
  sees_end out =
      let stays = stays_at_end x s (eqb (count_of st r) 0) st.cursor (omega (arith, out)) in
      admitted (omega (arith, out)) ∙ looks (omega (arith, stays)) ∙ rw (no_byte s st.cursor (omega (arith, out)))

-- What a reader that counts sees where nothing is passed: a byte, or the end.
pub record Sight (n : ℕ) (w s : List ℕ) (seen : Option ℕ) : Type 0 where
  pub low : n ≤ 2
  pub edition : is_edition (get_or w 7 0) ≡ true
  pub alone : is_consecutive_alone (flags_at (state_in w).format n) ≡ false
  pub fit : count_sum (state_in w) ≤ get_or w 2 0
  pub within : get_or w 2 0 ≤ length s
  pub peeks : (r : Reader) → flags_of (state_in w).format r ≡ flags_at (state_in w).format n
      → peek_of (reading_for (state_in w) r) s (state_in w) r ≡ record { refusal = 0; byte = seen; taken = 0; passed = 0; state = state_in w }

no_zero_one : ◌≡◌ {A = ℕ} 0 1 → ⊥
no_zero_one e = omega arith

-- which tests hold where a byte was found, and where the end was
byte_tests : (held past end other : Bool) (b c : ℕ) → cond held (cond past Other (cond end End (cond other Separator (Byte c)))) Other ≡ Byte b
    → (held ≡ true) × (past ≡ false) × (end ≡ false) × (other ≡ false) × (c ≡ b)
byte_tests true false false false b c e = (refl, refl, refl, refl, cc)
byte_tests true false false true b c e = absurd (no_zero_one cc)
byte_tests true false true other b c e = absurd (no_zero_one cc)
byte_tests true true end other b c e = absurd (no_zero_one cc)
byte_tests false past end other b c e = absurd (no_zero_one cc)

end_tests : (held past end other : Bool) (c : ℕ) → cond held (cond past Other (cond end End (cond other Separator (Byte c)))) Other ≡ End
    → (held ≡ true) × (past ≡ false) × (end ≡ true)
end_tests true false true other c e = (refl, refl, refl)
end_tests true false false true c e = absurd (no_zero_one cc)
end_tests true false false false c e = absurd (no_zero_one cc)
end_tests true true end other c e = absurd (no_zero_one cc)
end_tests false past end other c e = absurd (no_zero_one cc)

separator_tests : (held past end other : Bool) (c : ℕ) → cond held (cond past Other (cond end End (cond other Separator (Byte c)))) Other ≡ Separator
    → (held ≡ true) × (past ≡ false) × (end ≡ false) × (other ≡ true)
separator_tests true false false true c e = (refl, refl, refl, refl)
separator_tests true false false false c e = absurd (no_zero_one cc)
separator_tests true false true other c e = absurd (no_zero_one cc)
separator_tests true true end other c e = absurd (no_zero_one cc)
separator_tests false past end other c e = absurd (no_zero_one cc)

-- What is known of a reader that counts where the word's separator is under its cursor.
pub record OnSeparator (n : ℕ) (w s : List ℕ) : Type 0 where
  pub low : n ≤ 2
  pub edition : is_edition (get_or w 7 0) ≡ true
  pub alone : is_consecutive_alone (flags_at (state_in w).format n) ≡ false
  pub fit : count_sum (state_in w) ≤ get_or w 2 0
  pub inside : get_or w 2 0 < length s
  pub equal : get_or s (get_or w 2 0) 0 ≡ digit_separator (state_in w).format

module _ (n : ℕ) (w s : List ℕ) (here : Here) (found : here ≡ here_of n w s) where
  abbrev f : Format
  f = (state_in w).format

  abbrev byte : ℕ
  byte = get_or s (get_or w 2 0) 0

  abbrev held : Bool
  held = is_served n w && is_clear n w

  abbrev past : Bool
  past = ltb (length s) (get_or w 2 0)

  abbrev ended : Bool
  ended = eqb (length s) (get_or w 2 0)

  abbrev separates : Bool
  separates = eqb byte (digit_separator f)

  module _ (holds : held ≡ true) where
    both : (is_served n w ≡ true) × (is_clear n w ≡ true)
    both = (and-eq-true_iff (is_served n w) (is_clear n w)).0 holds

    served : (leb n 2 ≡ true) × (is_edition (get_or w 7 0) ≡ true)
    served = (and-eq-true_iff (leb n 2) (is_edition (get_or w 7 0))).0 both.0

    clears : (not (is_consecutive_alone (flags_at f n)) ≡ true) × (leb (count_sum (state_in w)) (get_or w 2 0) ≡ true)
    clears = (and-eq-true_iff (not (is_consecutive_alone (flags_at f n))) (leb (count_sum (state_in w)) (get_or w 2 0))).0 both.1

    not_alone : is_consecutive_alone (flags_at f n) ≡ false
    not_alone = not-true _ clears.0

    fits : count_sum (state_in w) ≤ get_or w 2 0
    fits = leb-true (count_sum (state_in w)) (get_or w 2 0) clears.1

  module _ (b : ℕ) (is : here ≡ Byte b) where
    tests : (held ≡ true) × (past ≡ false) × (ended ≡ false) × (separates ≡ false) × (byte ≡ b)
    unfolding here_of
    tests = byte_tests held past ended separates b byte (sym found ∙ is)

    pub byte_inside : get_or w 2 0 < length s
    byte_inside =
        let within = ltb-false (length s) (get_or w 2 0) tests.1 in
        let more = eqb-false (length s) (get_or w 2 0) tests.2 in
        omega (arith, within, more)

    peeks_byte : (r : Reader) → flags_of f r ≡ flags_at f n
        → peek_of (reading_for (state_in w) r) s (state_in w) r ≡ record { refusal = 0; byte = Some b; taken = 0; passed = 0; state = state_in w }
    unfolding syntax_on syntax_of
    peeks_byte r flags =
        rw tests.4 at
        (sees_byte (syntax_of f r) s (state_in w) r (ap is_consecutive_alone flags ∙ not_alone tests.0) (fits tests.0) byte_inside (eqb-false _ _ tests.3))

    pub byte_sight : Sight n w s (Some b)
    byte_sight =
        record {
          low = leb-true n 2 (served tests.0).0;
          edition = (served tests.0).1;
          alone = not_alone tests.0;
          fit = fits tests.0;
          within = omega (arith, byte_inside);
          peeks = peeks_byte;
        }

  module _ (is : here ≡ End) where
    end_told : (held ≡ true) × (past ≡ false) × (ended ≡ true)
    unfolding here_of
    end_told = end_tests held past ended separates byte (sym found ∙ is)

    at_end : length s ≡ get_or w 2 0
    at_end = eqb-true (length s) (get_or w 2 0) end_told.2

    peeks_end : (r : Reader) → flags_of f r ≡ flags_at f n
        → peek_of (reading_for (state_in w) r) s (state_in w) r ≡ record { refusal = 0; byte = None; taken = 0; passed = 0; state = state_in w }
    unfolding syntax_on syntax_of
    peeks_end r flags =
        sees_end (syntax_of f r) s (state_in w) r (ap is_consecutive_alone flags ∙ not_alone end_told.0) (fits end_told.0) at_end

    pub end_sight : Sight n w s None
    end_sight =
        record {
          low = leb-true n 2 (served end_told.0).0;
          edition = (served end_told.0).1;
          alone = not_alone end_told.0;
          fit = fits end_told.0;
          within = omega (arith, at_end);
          peeks = peeks_end;
        }

  module _ (is : here ≡ Separator) where
    on_separator_told : (held ≡ true) × (past ≡ false) × (ended ≡ false) × (separates ≡ true)
    unfolding here_of
    on_separator_told = separator_tests held past ended separates byte (sym found ∙ is)

    pub on_separator : OnSeparator n w s
    on_separator =
        let told = on_separator_told in
        let within = ltb-false (length s) (get_or w 2 0) told.1 in
        let more = eqb-false (length s) (get_or w 2 0) told.2 in
        record {
          low = leb-true n 2 (served told.0).0;
          edition = (served told.0).1;
          alone = not_alone told.0;
          fit = fits told.0;
          inside = omega (arith, within, more);
          equal = eqb-true _ _ told.3;
        }

-- What a digit run takes: digits only, by every word. Assumes nothing.
use Rattle.std.proofs.Common.{◌≡◌, ℕ, zero, suc, ◌+◌, ◌<◌, Bool, true, false, eqb, List, ◌++◌, is_some, Some, None, Option, sym, refl, ◌∙◌, arith, ltb-true, eqb-true}
use Rattle.std.specs.List.{AllPass}
use Rattle.std.proofs.lemmas.Bool.{false≢true}
use Rattle.std.proofs.lemmas.List.Elements.{All-nil, All-cons}
use Rattle.word.specs.Digit.{below, digit_value, is_digit}
use Rattle.reader.specs.declared.state.Reader.{Reader}
use Rattle.reader.specs.declared.state.State.{State}
use Rattle.reader.specs.declared.passing.Syntax.{Syntax}
use Rattle.reader.specs.Place.{byte_at}
use Rattle.reader.specs.Reading.{Reading, reading_with, passed_at}
use Rattle.reader.specs.State.{count_of, moved_to}
use Rattle.reader.specs.Calls.{refusal_of, peeked, peek_of, take_byte, next_of}
use Rattle.reader.specs.History.{byte_taken}
use Rattle.reader.proofs.passing.Passed.{passed_fits}
use Rattle.reader.proofs.state.Refusals.{within, still_admitted, peek_admitted, turned_away}
use Rattle.reader.proofs.state.Updates.{count_moved}
use Rattle.cells.specs.DigitRun.{sees_digit, digits_from}
use Rattle.cells.proofs.TwicePassed.{digit_behind}

module _ (x : Syntax) (s : List ℕ) (r : Reader) where
  abbrev m : Reading
  m = reading_with x

  module _ (st : State) where
    abbrev is_first : Bool
    is_first = eqb (count_of st r) 0

    abbrev place : ℕ
    place = st.cursor + passed_at m s is_first st.cursor

    -- the byte of a take is that of its peek
    take_shows : (next_of m s st r).byte ≡ (peek_of m s st r).byte
    unfolding next_of
    take_shows = go (peek_of m s st r).byte refl where
      go : (o : Option ℕ) → (peek_of m s st r).byte ≡ o → (take_byte m r (peek_of m s st r) o).byte ≡ o
      go None e = e
      go (Some b) e = refl

    peek_shows : refusal_of m s st r ≡ 0 → (peek_of m s st r).byte ≡ byte_at s place
    unfolding peeked
    peek_shows clear = rw (peek_admitted m s st r clear)

    peek_leaves : refusal_of m s st r ≡ 0 → (peek_of m s st r).state ≡ moved_to st place
    unfolding peeked
    peek_leaves clear = rw (peek_admitted m s st r clear)

  -- the take from the state that a peek left
  next_shows : (st : State) → refusal_of m s st r ≡ 0
      → (next_of m s (moved_to st (place st)) r).byte ≡ byte_at s (place st + passed_at m s (is_first st) (place st))
  unfolding moved_to
  next_shows st clear =
      let w = within m.flags s st r clear in
      let fits = passed_fits m s (is_first st) st.cursor w.0 in
      let still = still_admitted m.flags s st (moved_to st (place st)) r fits (omega (arith, w.1)) clear in
      take_shows (moved_to st (place st)) ∙ peek_shows (moved_to st (place st)) still ∙ rw (count_moved st (place st) r)

  -- behind a peek that saw a digit a digit is taken
  taken_here : (st : State) → refusal_of m s st r ≡ 0 → sees_digit m (peek_of m s st r).byte ≡ true
      → (c : ℕ) → (next_of m s (peek_of m s st r).state r).byte ≡ Some c → m.digit c ≡ true
  taken_here st clear sees c took =
      go (byte_at s (place st)) refl (rw (peek_shows st clear) at sees) where
        took_there : byte_at s (place st + passed_at m s (is_first st) (place st)) ≡ Some c
        took_there = sym (next_shows st clear) ∙ rw (peek_leaves st clear) at took

        go : (o : Option ℕ) → byte_at s (place st) ≡ o → sees_digit m o ≡ true → m.digit c ≡ true
        go None e h = absurd (false≢true h)
        go (Some b) e h = digit_behind x s (is_first st) st.cursor b e h c took_there

  pub digit_taken : (st : State) → sees_digit m (peek_of m s st r).byte ≡ true
      → (c : ℕ) → (next_of m s (peek_of m s st r).state r).byte ≡ Some c → m.digit c ≡ true
  digit_taken st sees c took = go (eqb (refusal_of m s st r) 0) refl where
    go : (t : Bool) → eqb (refusal_of m s st r) 0 ≡ t → m.digit c ≡ true
    go true t = taken_here st (eqb-true (refusal_of m s st r) 0 t) sees c took
    go false t = absurd (false≢true (rw (turned_away m s st r t) at sees))

  pub digits_are_digits : (n : ℕ) (st : State) → AllPass (λ b. is_digit b x.radix) (digits_from n m s r st).digits
  unfolding digits_from reading_with
  digits_are_digits zero st = All-nil _
  digits_are_digits (suc n) st = go (sees_digit m (peek_of m s st r).byte) refl (digits_are_digits n (next_of m s (peek_of m s st r).state r).state) where
    joined : (rest : List ℕ) (o : Option ℕ) → ((c : ℕ) → o ≡ Some c → is_digit c x.radix ≡ true) → AllPass (λ b. is_digit b x.radix) rest
        → AllPass (λ b. is_digit b x.radix) (byte_taken o ++ rest)
    joined rest None one all = all
    joined rest (Some c) one all = All-cons (λ b. is_digit b x.radix ≡ true) c rest (one c refl) all

    go :
        (t : Bool) → sees_digit m (peek_of m s st r).byte ≡ t
        → AllPass (λ b. is_digit b x.radix) (digits_from n m s r (next_of m s (peek_of m s st r).state r).state).digits
        → AllPass (λ b. is_digit b x.radix) (digits_from (suc n) m s r st).digits
    go false e rest = rw e (All-nil (λ b. is_digit b x.radix ≡ true))
    go true e rest = rw e (joined _ (next_of m s (peek_of m s st r).state r).byte (digit_taken st e) rest)

-- so each has a value, in a radix of eight bits: above that every byte is a digit
has_value : (b radix : ℕ) → radix < 256 → is_digit b radix ≡ true → is_some (digit_value b) ≡ true
unfolding is_digit
has_value b radix small = go (digit_value b) where
  go : (o : Option ℕ) → below o radix ≡ true → is_some o ≡ true
  go None h = absurd (omega (arith, ltb-true 255 radix h))
  go (Some d) h = refl

pub digits_have_values : (x : Syntax) (s : List ℕ) (r : Reader) (n : ℕ) (st : State) → x.radix < 256
    → AllPass (λ b. is_some (digit_value b)) (digits_from n (reading_with x) s r st).digits
digits_have_values x s r n st small = λ k d h. has_value _ x.radix small (digits_are_digits x s r n st k d h)

-- Of a run that reaches the end of a cell, the digits are the cell's bytes that are no separators: for numbers from cells that are longer
-- than 64 bits hold. Assumes nothing.
use Rattle.std.proofs.Common.{◌≡◌, ℕ, zero, suc, ◌+◌, ◌<◌, Bool, true, false, eqb, List, [], ◌∷◌, ◌++◌, length, take, drop, replicate, Some, None, Option, sym, refl, ap, ◌∙◌, ⊎_elim, append_assoc, append-nil, add-zero, eq-zero-or-pos, arith, take-append-drop, drop-drop}
use lib.Seq.{drop-length}
use Rattle.std.proofs.lemmas.Bool.{false≢true}
use Rattle.word.specs.Digit.{is_digit}
use Rattle.word.specs.Word.{digit_separator, mantissa_radix}
use Rattle.word.specs.Check.{full_check}
use Rattle.word.proofs.feature_format.Accepted.{separator_no_digit}
use Rattle.reader.specs.declared.state.Reader.{Reader}
use Rattle.reader.specs.declared.state.State.{State}
use Rattle.reader.specs.declared.passing.Syntax.{Syntax}
use Rattle.reader.specs.Place.{is_separator}
use Rattle.reader.specs.Reading.{Reading, reading_with, reading_on, syntax_on, syntax_of}
use Rattle.reader.specs.State.{Sheet, fresh_on, count_of}
use Rattle.reader.specs.Answer.{Outcome}
use Rattle.reader.specs.Calls.{peek_of, next_of}
use Rattle.reader.specs.History.{a_take, Step, byte_taken, step_of}
use Rattle.reader.proofs.passing.Passed.{passes_here, separator_is}
use Rattle.reader.proofs.ByteTally.Steps.{Moves, peek_step, take_step}
use Rattle.cells.specs.DigitRun.{sees_digit, digits_from, taken_run}
use Rattle.cells.specs.Whole.{others}
use Rattle.cells.proofs.Digits.{digit_taken}

-- separators in front change nothing
others-behind : (separator k : ℕ) (l : List ℕ) → is_separator separator separator ≡ true → others separator (replicate k separator ++ l) ≡ others separator l
others-behind separator zero l e = refl
others-behind separator (suc k) l e = rw e (others-behind separator k l e)

first_then : (l : List ℕ) (b : ℕ) → take 1 l ≡ b ∷ [] → l ≡ b ∷ drop 1 l
first_then [] b e = absurd (cc)
first_then (c ∷ l) b e = let same : c ≡ b = cc in rw same

module _ (x : Syntax) (s : List ℕ) (r : Reader) (apart : (b : ℕ) → is_digit b x.radix ≡ true → is_separator x.separator b ≡ false) where
  abbrev m : Reading
  m = reading_with x

  -- what is left of the cell at a place
  abbrev left : ℕ → List ℕ
  left at = others x.separator (drop at s)

  -- a call passes separators only
  module _ (st : State) (e : Step) (then : State) (moves : Moves (λ q. m) s st e then) where
    is_separator_lem : 0 < e.passed → is_separator x.separator x.separator ≡ true
    unfolding reading_with
    is_separator_lem some-passed =
        let here = passes_here m s (eqb (count_of st e.reader) 0) st.cursor (moves.by_rule some-passed) in
        ap (is_separator x.separator) (sym (separator_is x.separator here.byte here.separator)) ∙ here.separator

    pub passed_over : left st.cursor ≡ left (st.cursor + e.passed)
    unfolding reading_with
    passed_over =
        let split : drop st.cursor s ≡ replicate e.passed x.separator ++ drop (st.cursor + e.passed) s =
        sym (take-append-drop e.passed (drop st.cursor s)) ∙ rw (moves.only, drop-drop e.passed st.cursor s) in
        rw split
        (⊎_elim (λ z. rw z) (λ h. others-behind x.separator e.passed (drop (st.cursor + e.passed) s) (is_separator_lem h)) (eq-zero-or-pos e.passed))

  -- the peek that ends a run
  peeked_over : (st : State) → left st.cursor ≡ left (peek_of m s st r).state.cursor
  peeked_over st =
      let moves = peek_step (λ q. m) s st r in
      passed_over st _ _ moves ∙ ap left (sym (moves.cursor ∙ add-zero (st.cursor + (peek_of m s st r).passed)))

  -- a take whose byte is a digit
  taken_over : (st : State) → ((c : ℕ) → (next_of m s st r).byte ≡ Some c → is_digit c x.radix ≡ true)
      → left st.cursor ≡ byte_taken (next_of m s st r).byte ++ left (next_of m s st r).state.cursor
  taken_over st digit = passed_over st _ _ moves ∙ go (next_of m s st r).byte refl moves.cursor moves.bytes where
    moves : Moves (λ q. m) s st (step_of r a_take (next_of m s st r)) (next_of m s st r).state
    moves = take_step (λ q. m) s st r

    at : ℕ
    at = st.cursor + (next_of m s st r).passed

    go :
        (o : Option ℕ) → (next_of m s st r).byte ≡ o → (next_of m s st r).state.cursor ≡ at + length (byte_taken o)
        → take (length (byte_taken o)) (drop at s) ≡ byte_taken o → left at ≡ byte_taken o ++ left (next_of m s st r).state.cursor
    go None e moved bytes = ap left (sym (moved ∙ add-zero at))
    go (Some c) e moved bytes =
        let there : drop at s ≡ c ∷ drop (at + 1) s = first_then (drop at s) c bytes ∙ ap (λ (l : List ℕ). c ∷ l) (drop-drop 1 at s) in
        ap (others x.separator) there ∙ rw (apart c (digit c e), moved)

  covers : (n : ℕ) (st : State) → left st.cursor ≡ (digits_from n m s r st).digits ++ left (digits_from n m s r st).state.cursor
  unfolding digits_from reading_with
  covers zero st = peeked_over st
  covers (suc n) st = go (sees_digit m (peek_of m s st r).byte) refl (covers n next.state) where
    seen : State
    seen = (peek_of m s st r).state

    next : Outcome
    next = next_of m s seen r

    go :
        (t : Bool) → sees_digit m (peek_of m s st r).byte ≡ t
        → left next.state.cursor ≡ (digits_from n m s r next.state).digits ++ left (digits_from n m s r next.state).state.cursor
        → left st.cursor ≡ (digits_from (suc n) m s r st).digits ++ left (digits_from (suc n) m s r st).state.cursor
    go false e rest = rw e (peeked_over st)
    go true e rest =
        rw e
        (peeked_over st
        ∙ taken_over seen (digit_taken x s r st e)
        ∙ ap (λ (l : List ℕ). byte_taken next.byte ++ l) rest
        ∙ sym (append_assoc (byte_taken next.byte) (digits_from n m s r next.state).digits (left (digits_from n m s r next.state).state.cursor)))

  -- of a run that reaches the end
  pub whole_run : (n : ℕ) (st : State) → st.cursor ≡ 0 → (digits_from n m s r st).state.cursor ≡ length s
      → (digits_from n m s r st).digits ≡ others x.separator s
  whole_run n st start end =
      let digits = (digits_from n m s r st).digits in
      sym
      (ap left (sym start)
      ∙ covers n st
      ∙ ap (λ (k : ℕ). digits ++ left k) end
      ∙ ap (λ (l : List ℕ). digits ++ others x.separator l) (drop-length s)
      ∙ append-nil digits)

-- A RUN FROM A FRESH STATE THAT REACHES THE END OF A CELL TAKES THE CELL'S BYTES THAT ARE NO SEPARATORS, for a word that the check accepts
pub whole_digits : (sheet : Sheet) → full_check sheet.format ≡ 0 → (s : List ℕ) (r : Reader)
    → (taken_run (reading_on sheet r) s (fresh_on sheet) r).state.cursor ≡ length s
    → (taken_run (reading_on sheet r) s (fresh_on sheet) r).digits ≡ others (digit_separator sheet.format) s
unfolding syntax_on syntax_of
whole_digits sheet accepted s r end = whole_run (syntax_on sheet r) s r apart (length s) (fresh_on sheet) refl end where
  apart : (b : ℕ) → is_digit b (mantissa_radix sheet.format) ≡ true → is_separator (digit_separator sheet.format) b ≡ false
  apart b digit = go (is_separator (digit_separator sheet.format) b) refl where
    go : (t : Bool) → is_separator (digit_separator sheet.format) b ≡ t → t ≡ false
    go false e = refl
    go true e =
        let same = separator_is (digit_separator sheet.format) b e in
        let other = separator_no_digit sheet.format accepted (mantissa_radix sheet.format) (omega arith) in
        absurd (false≢true (sym other ∙ rw same at digit))

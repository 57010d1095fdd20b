-- A call made again until it answers no byte: how it goes on, and the invariant of a loop over it: for takes to the end, zero
-- skips, and their refusals. Assumes nothing.
use Rattle.std.proofs.Common.{◌≡◌, ℕ, zero, suc, ◌+◌, ◌-◌, ◌<◌, ◌≤◌, List, length, Some, None, Option, sym, refl, ap, ◌∙◌, add_assoc, zero-add, arith}
use Rattle.reader.specs.declared.state.State.{State}
use Rattle.reader.specs.Answer.{Outcome}
use Rattle.reader.specs.Repeat.{plus, until_none, repeated}

plus_zero : (o : Outcome) → plus 0 0 o ≡ o
plus_zero o = rw (zero-add o.taken, zero-add o.passed)

plus-plus : (a b c d : ℕ) (o : Outcome) → plus a b (plus c d o) ≡ plus (a + c) (b + d) o
plus-plus a b c d o = rw (add_assoc a c o.taken, add_assoc b d o.passed)

module _ (call : State → Outcome) where
  pub repeated-stops : (n : ℕ) (st : State) → (call st).byte ≡ None → repeated n call st ≡ call st
  unfolding until_none
  repeated-stops zero st e = refl
  repeated-stops (suc n) st e = rw e

  pub repeated_goes_on : (n : ℕ) (st : State) (b : ℕ) → (call st).byte ≡ Some b
      → repeated (suc n) call st ≡ plus (call st).taken (call st).passed (repeated n call (call st).state)
  unfolding until_none
  repeated_goes_on n st b e = rw e

-- an outcome that has a byte took that one, and has moved past it within the buffer
pub record TakesOne (s : List ℕ) (st : State) (o : Outcome) : Type 0 where
  pub moves : o.state.cursor ≡ st.cursor + o.passed + 1
  pub inside : st.cursor + o.passed < length s
  pub one : o.taken ≡ 1

-- Calls that take a byte of the buffer each come to an end: the last one answers no byte, however few may follow the first, if they
-- are as many as there are bytes left.
module _ (s : List ℕ) (call : State → Outcome) (takes : (st : State) (b : ℕ) → (call st).byte ≡ Some b → TakesOne s st (call st)) where
  ends_after : (n : ℕ) (st : State) → length s ≤ st.cursor + n → (repeated n call st).byte ≡ None
  unfolding until_none
  ends_after zero st few = go (call st).byte refl where
    go : (o : Option ℕ) → (call st).byte ≡ o → (call st).byte ≡ None
    go None e = e
    go (Some b) e = absurd (omega (arith, (takes st b e).inside))
  ends_after (suc n) st few = go (call st).byte refl (ends_after n (call st).state) where
    go :
        (o : Option ℕ) → (call st).byte ≡ o → (length s ≤ (call st).state.cursor + n → (repeated n call (call st).state).byte ≡ None)
        → (repeated (suc n) call st).byte ≡ None
    go None e rest = rw e
    go (Some b) e rest = rw e (rest (omega (arith, (takes st b e).moves)))

  pub repeated_ends : (st : State) → (repeated (length s) call st).byte ≡ None
  repeated_ends st = ends_after (length s) st (omega arith)

module _ (s : List ℕ) (call : State → Outcome) where
  -- Calls from `st` have come to `here`: with what is taken and passed so far they answer what the calls from here answer.
  pub record Repeating (st : State) (taken passed : ℕ) (here : State) : Type 0 where
    pub same : repeated (length s) call st ≡ plus taken passed (repeated (length s - taken) call here)
    pub moves : st.cursor + taken + passed ≡ here.cursor
    pub fits : passed ≤ length s

  pub repeating_starts : (st : State) → Repeating st 0 0 st
  repeating_starts st =
      let untouched : length s - 0 ≡ length s = omega arith in
      record { same = rw untouched (sym (plus_zero (repeated (length s) call st))); moves = omega arith; fits = omega arith }

  module _ (st : State) (taken passed : ℕ) (here : State) (so_far : Repeating st taken passed here) where
    pub repeating_ends : (call here).byte ≡ None → plus taken passed (call here) ≡ repeated (length s) call st
    repeating_ends e = sym (so_far.same ∙ ap (plus taken passed) (repeated-stops call (length s - taken) here e))

    pub repeating_goes_on : (b : ℕ) → (call here).byte ≡ Some b → TakesOne s here (call here)
        → Repeating st (taken + 1) (passed + (call here).passed) (call here).state
    repeating_goes_on b e n =
        let steps : length s - taken ≡ suc (length s - (taken + 1)) = omega (arith, so_far.moves, n.inside) in
        record {
          same =
              so_far.same
              ∙ ap (plus taken passed) (ap (λ (k : ℕ). repeated k call here) steps ∙ repeated_goes_on call (length s - (taken + 1)) here b e)
              ∙ plus-plus taken passed (call here).taken (call here).passed _
              ∙ rw n.one;
          moves = omega (arith, so_far.moves, n.moves);
          fits = omega (arith, so_far.moves, n.inside);
        }

-- A digit run ends within as many steps as there are bytes: more of them would change nothing, so the number that the definition allows is
-- enough. Assumes nothing.
use Rattle.std.proofs.Common.{◌≡◌, ℕ, zero, suc, ◌+◌, ◌≤◌, Bool, true, false, cond, eqb, ltb, List, length, Some, None, Option, sym, refl, ap, ◌∙◌, zero-add, arith, ltb-false, ltb-true, eqb-true}
use Rattle.std.proofs.lemmas.Option.{none-some}
use Rattle.reader.specs.declared.state.Reader.{Reader}
use Rattle.reader.specs.declared.state.State.{State}
use Rattle.reader.specs.Place.{byte_at}
use Rattle.reader.specs.Reading.{Reading, passed_at}
use Rattle.reader.specs.State.{count_of, moved_to}
use Rattle.reader.specs.Calls.{refusal_of, peeked, peek_of, take_byte, next_of}
use Rattle.reader.proofs.passing.Places.{byte_here}
use Rattle.reader.proofs.state.Refusals.{peek_admitted, turned_away}
use Rattle.reader.proofs.skip.Takes.{peek_byte, next_takes_one}
use Rattle.reader.proofs.ByteTally.Steps.{moves_clear, peek_step}
use Rattle.cells.specs.DigitRun.{stopped, step_then, sees_digit, digits_from, taken_run}

module _ (m : Reading) (s : List ℕ) (r : Reader) where
  -- where a byte is seen, the state is not refused
  seen_clear : (st : State) (b : ℕ) → (peek_of m s st r).byte ≡ Some b → refusal_of m s st r ≡ 0
  seen_clear st b e = go (eqb (refusal_of m s st r) 0) refl where
    go : (t : Bool) → eqb (refusal_of m s st r) 0 ≡ t → refusal_of m s st r ≡ 0
    go true t = eqb-true (refusal_of m s st r) 0 t
    go false t = absurd (none-some b (rw (turned_away m s st r t) at e))

  -- a peek that is not refused and sees no byte has come to the end
  peeks_end : (st : State) → refusal_of m s st r ≡ 0 → (peek_of m s st r).byte ≡ None → length s ≤ (peek_of m s st r).state.cursor
  unfolding peeked moved_to
  peeks_end st clear e = rw (peek_admitted m s st r clear) (go (ltb place (length s)) refl) where
    place : ℕ
    place = st.cursor + passed_at m s (eqb (count_of st r) 0) st.cursor

    there : byte_at s place ≡ None
    there = rw (peek_admitted m s st r clear) at e

    go : (t : Bool) → ltb place (length s) ≡ t → length s ≤ place
    go true t = absurd (none-some _ (sym there ∙ byte_here s place (ltb-true place (length s) t)))
    go false t = ltb-false place (length s) t

  -- a take that takes nothing is its peek
  takes_nothing : (st : State) → (next_of m s st r).byte ≡ None → ((peek_of m s st r).byte ≡ None) × ((next_of m s st r).state ≡ (peek_of m s st r).state)
  unfolding next_of
  takes_nothing st e = go (peek_of m s st r).byte refl e where
    go : (o : Option ℕ) → (peek_of m s st r).byte ≡ o → (take_byte m r (peek_of m s st r) o).byte ≡ None
        → (o ≡ None) × ((take_byte m r (peek_of m s st r) o).state ≡ (peek_of m s st r).state)
    go None q h = (refl, refl)
    go (Some b) q h = absurd (none-some b (sym h))

  -- a take from behind a peek that saw a byte moves the cursor on, or to the end
  moves_on : (st : State) (b : ℕ) → (peek_of m s st r).byte ≡ Some b → (n : ℕ) → length s ≤ st.cursor + suc n
      → length s ≤ (next_of m s (peek_of m s st r).state r).state.cursor + n
  moves_on st b e n enough = go (next_of m s seen r).byte refl where
    seen : State
    seen = (peek_of m s st r).state

    on : st.cursor ≤ seen.cursor
    on = omega (arith, (peek_step (λ q. m) s st r).cursor)

    clear : refusal_of m s seen r ≡ 0
    clear = moves_clear (λ q. m) s st _ seen (peek_step (λ q. m) s st r) m.flags r (seen_clear st b e)

    go : (o : Option ℕ) → (next_of m s seen r).byte ≡ o → length s ≤ (next_of m s seen r).state.cursor + n
    go (Some c) q = omega (arith, on, enough, (next_takes_one m s seen r c q).moves)
    go None q =
        let nothing = takes_nothing seen q in
        let end = peeks_end seen clear nothing.0 in
        omega (arith, end, ap (λ (h : State). h.cursor) nothing.1)

  -- at the end no byte is seen
  sees_none : (st : State) → length s ≤ st.cursor → sees_digit m (peek_of m s st r).byte ≡ false
  sees_none st out = go (peek_of m s st r).byte refl where
    go : (o : Option ℕ) → (peek_of m s st r).byte ≡ o → sees_digit m o ≡ false
    go None e = refl
    go (Some b) e = absurd (omega (arith, out, (peek_byte m s st r b e).inside))

  enough_from : (n k : ℕ) (st : State) → length s ≤ st.cursor + n → digits_from (n + k) m s r st ≡ digits_from n m s r st
  unfolding digits_from
  enough_from zero zero st enough = refl
  enough_from zero (suc k) st enough = rw (zero-add (suc k), sees_none st (omega (arith, enough)))
  enough_from (suc n) k st enough = rw one_more (go (peek_of m s st r).byte refl (enough_from n k (next_of m s seen r).state)) where
    one_more : suc n + k ≡ suc (n + k)
    one_more = omega arith

    seen : State
    seen = (peek_of m s st r).state

    go :
        (o : Option ℕ) → (peek_of m s st r).byte ≡ o
        → (length s ≤ (next_of m s seen r).state.cursor + n → digits_from (n + k) m s r (next_of m s seen r).state ≡ digits_from n m s r (next_of m s seen r).state)
        → digits_from (suc (n + k)) m s r st ≡ digits_from (suc n) m s r st
    go None e rest = rw e
    go (Some b) e rest = rw e (judge (m.digit b)) where
      judge : (t : Bool)
          → cond t (step_then (peek_of m s st r) (next_of m s seen r) (digits_from (n + k) m s r (next_of m s seen r).state)) (stopped (peek_of m s st r))
          ≡ cond t (step_then (peek_of m s st r) (next_of m s seen r) (digits_from n m s r (next_of m s seen r).state)) (stopped (peek_of m s st r))
      judge false = refl
      judge true = ap (step_then (peek_of m s st r) (next_of m s seen r)) (rest (moves_on st b e n enough))

  pub enough_steps : (st : State) (k : ℕ) → digits_from (length s + k) m s r st ≡ taken_run m s st r
  enough_steps st k = enough_from (length s) k st (omega arith)

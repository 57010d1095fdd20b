-- Where a take leaves the cursor, takes from a refused state, and that takes to the end have come to their end:
-- for this room and the reads of a zero skip. Assumes nothing.
use Rattle.std.proofs.Common.{◌≡◌, ℕ, ◌+◌, ◌<◌, ◌≤◌, Bool, true, false, cond, ◌&&◌, eqb, List, length, Some, None, Option, sym, refl, ap, ◌∙◌, eqb-true}
use Rattle.std.proofs.lemmas.Option.{none-some}
use Rattle.reader.specs.declared.state.Reader.{Reader}
use Rattle.reader.specs.declared.state.State.{State}
use Rattle.reader.specs.declared.state.Refusal.{Refusal}
use Rattle.reader.specs.Reading.{Reading, has_any_flag}
use Rattle.reader.specs.State.{count_sum, moved_to, counted_by}
use Rattle.reader.specs.Answer.{number_of, Outcome}
use Rattle.reader.specs.Calls.{refusal_with, refusal_of, refused, peeked, peek_of, taken_from, take_byte, next_of, next_all_of}
use Rattle.reader.proofs.passing.Places.{byte_inside}
use Rattle.reader.specs.Repeat.{repeated}
use Rattle.reader.proofs.state.Refusals.{within, peek_refused}
use Rattle.reader.proofs.Repeats.{repeated-stops, TakesOne, repeated_ends}
use Rattle.reader.proofs.state.Updates.{counted_stays}

taken_moves : (m : Reading) (r : Reader) (b : ℕ) (st : State) → (taken_from m r b st).cursor ≡ st.cursor + 1
unfolding moved_to
taken_moves m r b st = go (has_any_flag m.flags && m.digit b) where
  go : (t : Bool) → (cond t (counted_by (moved_to st (st.cursor + 1)) r) (moved_to st (st.cursor + 1))).cursor ≡ st.cursor + 1
  go true = counted_stays (moved_to st (st.cursor + 1)) r
  go false = refl

-- a peek that sees a byte has moved by what it passed, stands on a byte of the buffer, and its counts are within where it was
pub record StandsOn (s : List ℕ) (st : State) (o : Outcome) : Type 0 where
  pub moves : o.state.cursor ≡ st.cursor + o.passed
  pub inside : st.cursor + o.passed < length s
  pub sums : count_sum o.state ≤ st.cursor

module _ (m : Reading) (s : List ℕ) (st : State) (r : Reader) where
  pub peek_byte : (b : ℕ) → (peek_of m s st r).byte ≡ Some b → StandsOn s st (peek_of m s st r)
  unfolding peek_of peeked moved_to
  peek_byte b e = go (eqb (refusal_of m s st r) 0) refl e where
    go : (t : Bool) → eqb (refusal_of m s st r) 0 ≡ t → (peek_of m s st r).byte ≡ Some b → StandsOn s st (peek_of m s st r)
    go true t h =
        let clear = eqb-true (refusal_of m s st r) 0 t in
        rw t (record { moves = refl; inside = byte_inside s _ b (rw t at h); sums = (within m.flags s st r clear).1 })
    go false t h = absurd (none-some b (rw t at h))

  -- a take with a byte took one
  pub next_takes_one : (b : ℕ) → (next_of m s st r).byte ≡ Some b → TakesOne s st (next_of m s st r)
  unfolding next_of
  next_takes_one b e = go (peek_of m s st r).byte refl e where
    go : (o : Option ℕ) → (peek_of m s st r).byte ≡ o → (take_byte m r (peek_of m s st r) o).byte ≡ Some b
        → TakesOne s st (take_byte m r (peek_of m s st r) o)
    go None q h = absurd (none-some b (sym q ∙ h))
    go (Some c) q h =
        let p = peek_byte c q in
        record { moves = taken_moves m r c (peek_of m s st r).state ∙ ap (λ (n : ℕ). n + 1) p.moves; inside = p.inside; one = refl }

-- takes from a refused state are the refusal
pub refused_at_once : (m : Reading) (s : List ℕ) (st : State) (r : Reader) (e : Refusal) → number_of e ≡ refusal_with m.flags s st r
    → refused (number_of e) st ≡ repeated (length s) (λ here. next_of m s here r) st
unfolding next_of
refused_at_once m s st r e number =
    let seen = peek_refused m s st r e number in
    let next : next_of m s st r ≡ refused (number_of e) st = rw seen in
    sym (repeated-stops (λ here. next_of m s here r) (length s) st (ap (λ (o : Outcome). o.byte) next) ∙ next)

-- takes to the end have come to their end: the last one answers no byte
pub takes_end_all : (m : Reading) (s : List ℕ) (st : State) (r : Reader) → (next_all_of m s st r).byte ≡ None
unfolding next_all_of
takes_end_all m s st r = repeated_ends s (λ here. next_of m s here r) (λ here. next_takes_one m s here r) st

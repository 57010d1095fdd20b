-- A peek from any state, refused or not: it moves over what it passed, which is separators where its rule holds. Assumes nothing.
use Rattle.std.proofs.Common.{◌≡◌, ℕ, ◌+◌, ◌<◌, ◌≤◌, Bool, true, false, eqb, List, length, take, drop, replicate, Some, refl, add-zero, arith, eqb-true}
use Rattle.reader.specs.declared.state.Reader.{Reader}
use Rattle.reader.specs.declared.state.State.{State}
use Rattle.reader.specs.Place.{byte_at}
use Rattle.reader.specs.Reading.{Reading, may_pass}
use Rattle.reader.specs.State.{count_of, count_sum, moved_to}
use Rattle.reader.specs.Answer.{Outcome}
use Rattle.reader.specs.Calls.{refusal_of, refused, peeked, peek_of}
use Rattle.reader.proofs.state.Refusals.{peek_admitted, turned_away}
use Rattle.reader.proofs.passing.Passed.{passed_fits, passes_only, passes_by_rule}

-- how an outcome stands to the state it came from, where the call took nothing
pub record Peeks (m : Reading) (s : List ℕ) (st : State) (r : Reader) (o : Outcome) : Type 0 where
  pub moves : o.state ≡ moved_to st (st.cursor + o.passed)
  pub sees : (b : ℕ) → o.byte ≡ Some b → byte_at s (st.cursor + o.passed) ≡ Some b
  pub only : take o.passed (drop st.cursor s) ≡ replicate o.passed m.separator
  pub by_rule : 0 < o.passed → may_pass m s (eqb (count_of st r) 0) st.cursor ≡ true
  pub inside : st.cursor ≤ length s → st.cursor + o.passed ≤ length s
  pub none_taken : o.taken ≡ 0

-- a refused call is one that moves by nothing
refused_peeks : (m : Reading) (s : List ℕ) (st : State) (r : Reader) (number : ℕ) → Peeks m s st r (refused number st)
unfolding moved_to
refused_peeks m s st r number =
    record {
      moves = rw (add-zero st.cursor);
      sees = λ b e. absurd (cc);
      only = refl;
      by_rule = λ h. absurd (omega arith);
      inside = λ h. omega arith;
      none_taken = refl;
    }

module _ (m : Reading) (s : List ℕ) (st : State) (r : Reader) where
  peeked_peeks : Peeks m s st r (peeked m s st r)
  unfolding peeked
  peeked_peeks =
      let is_first = eqb (count_of st r) 0 in
      record {
        moves = refl;
        sees = λ b e. e;
        only = passes_only m s is_first st.cursor;
        by_rule = passes_by_rule m s is_first st.cursor;
        inside = passed_fits m s is_first st.cursor;
        none_taken = refl;
      }

  pub peeks : Peeks m s st r (peek_of m s st r)
  peeks = go (eqb (refusal_of m s st r) 0) refl where
    go : (t : Bool) → eqb (refusal_of m s st r) 0 ≡ t → Peeks m s st r (peek_of m s st r)
    go true t = rw (peek_admitted m s st r (eqb-true (refusal_of m s st r) 0 t)) peeked_peeks
    go false t = rw (turned_away m s st r t) (refused_peeks m s st r (refusal_of m s st r))

  -- the cursor stays within the buffer, and the counts within the cursor
  pub peek_inside : st.cursor ≤ length s → (peek_of m s st r).state.cursor ≤ length s
  unfolding moved_to
  peek_inside h = rw peeks.moves (peeks.inside h)

  pub peek_counts : count_sum st ≤ st.cursor → count_sum (peek_of m s st r).state ≤ (peek_of m s st r).state.cursor
  unfolding moved_to
  peek_counts h = rw peeks.moves (omega arith)

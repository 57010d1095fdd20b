-- Takes on plain numbers: how these stand for the state of a list of takes, so that their sums are the takes' own (`sums_are_takes`, which
-- take_all and the column cite). Assumes nothing.
use Rattle.std.proofs.Common.{◌≡◌, ℕ, zero, suc, ◌+◌, ◌-◌, ◌<◌, ◌≤◌, Bool, true, false, cond, ◌&&◌, eqb, ltb, List, length, get_or, Some, None, refl, ap, add-zero, arith, ltb-false, ltb-true}
use Rattle.reader.specs.declared.state.Reader.{Reader}
use Rattle.reader.specs.declared.state.Reader.TheVariants.{Integer, Fraction, Exponent, Special}
use Rattle.reader.specs.declared.state.State.{State}
use Rattle.reader.specs.Reading.{Reading, has_any_flag, passed_at}
use Rattle.reader.specs.State.{is_counted, count_of, moved_to, counted_by}
use Rattle.reader.specs.Code.TakeSums.{with_count, sums_outcome, counts_digits, count_behind, lands_at, sums_from, take_sums_from}
use Rattle.reader.specs.Answer.{Outcome}
use Rattle.reader.specs.Calls.{refusal_with, taken_from, next_of, next_all_of}
use Rattle.reader.proofs.state.Refusals.{within}
use Rattle.reader.specs.Repeat.{repeated}
use Rattle.reader.proofs.state.Updates.{state_at, own_count_lem, past_byte}
use Rattle.reader.proofs.skip.LoopState.{Standing, standing_starts, standing_on, peeks_at}
use Rattle.reader.proofs.Repeats.{Repeating, repeating_starts, repeating_ends, repeating_goes_on}
use Rattle.reader.proofs.skip.Takes.{next_takes_one}
use Rattle.reader.proofs.passing.Places.{byte_here, no_byte}
use Rattle.reader.proofs.skip.SumsLoop.{end_passes_none, count_behind_fits, sums_on, sums_end}

-- Where the reader counts (t), one more is counted; a count of the special reader changes nothing.
counts_on : (st : State) (r : Reader) (at count : ℕ) (flagged digit : Bool)
    → cond (flagged && digit) (counted_by (state_at st r at count) r) (state_at st r at count)
    ≡ state_at st r at (cond ((flagged && is_counted r) && digit) (count + 1) count)
unfolding with_count counted_by
counts_on st Integer at count true true = refl
counts_on st Integer at count true false = refl
counts_on st Integer at count false digit = refl
counts_on st Fraction at count true true = refl
counts_on st Fraction at count true false = refl
counts_on st Fraction at count false digit = refl
counts_on st Exponent at count true true = refl
counts_on st Exponent at count true false = refl
counts_on st Exponent at count false digit = refl
counts_on st Special at count true true = refl
counts_on st Special at count true false = refl
counts_on st Special at count false digit = refl

-- the stored count one byte on
tells_count : (st : State) (r : Reader) (at count : ℕ) (t : Bool) → count_of (state_at st r at count) r ≡ count → (to : ℕ) (flagged : Bool)
    → count_of (state_at st r to (cond ((flagged && is_counted r) && t) (count + 1) count)) r ≡ cond ((flagged && is_counted r) && t) (count + 1) count
unfolding with_count moved_to count_of
tells_count st Integer at count t e to flagged = refl
tells_count st Fraction at count t e to flagged = refl
tells_count st Exponent at count t e to flagged = refl
tells_count st Special at count t e to true = e
tells_count st Special at count t e to false = e

-- the call that the loop repeats
abbrev take : Reading → List ℕ → Reader → State → Outcome
take m s r here = next_of m s here r

module _ (m : Reading) (s : List ℕ) (r : Reader) (st : State) where
  -- The loop stands at a place with a count, and has passed so many: these are the numbers of a list of takes from `st`.
  pub record Running (at count passed : ℕ) : Type 0 where
    pub so_far : Repeating s (take m s r) st (at - st.cursor - passed) passed (state_at st r at count)
    pub stands : Standing s r st at count
    pub started : st.cursor + passed ≤ at

module _ (m : Reading) (s : List ℕ) (r : Reader) (st : State) (clear : refusal_with m.flags s st r ≡ 0) where
  pub running_starts : Running m s r st st.cursor (count_of st r) 0
  running_starts =
      let none_yet : st.cursor - st.cursor - 0 ≡ 0 = omega arith in
      record {
        so_far = rw (own_count_lem st r, none_yet) (repeating_starts s (take m s r) st);
        stands = standing_starts s r st (within m.flags s st r clear);
        started = omega arith;
      }

  module _ (at count passed : ℕ) (here : Running m s r st at count passed) where
    abbrev now : State
    now = state_at st r at count

    module _ (place : ℕ) (lands : place ≡ at + passed_at m s (eqb count 0) at) where
      -- a take that finds a byte
      takes_byte : place < length s → next_of m s now r
          ≡ record { refusal = 0; byte = Some (get_or s place 0); taken = 1; passed = place - at; state = taken_from m r (get_or s place 0) (state_at st r place count) }
      unfolding next_of
      takes_byte h = rw (peeks_at s r st at count here.stands m clear place lands, byte_here s place h)

      -- a take that finds the end
      takes_end : length s ≤ place → next_of m s now r ≡ record { refusal = 0; byte = None; taken = 0; passed = place - at; state = state_at st r place count }
      unfolding next_of
      takes_end h = rw (peeks_at s r st at count here.stands m clear place lands, no_byte s place h)

      -- the count behind the byte
      abbrev count_on : ℕ
      count_on = cond ((has_any_flag m.flags && is_counted r) && m.digit (get_or s place 0)) (count + 1) count

      state_on : taken_from m r (get_or s place 0) (state_at st r place count) ≡ state_at st r (place + 1) count_on
      state_on = rw (past_byte st r place count) (counts_on st r (place + 1) count (has_any_flag m.flags) (m.digit (get_or s place 0)))

      pub running_on : place < length s → Running m s r st (place + 1) count_on (passed + (place - at))
      running_on h =
          let b = get_or s place 0 in
          let n = takes_byte h in
          let took : Repeating s (take m s r) st (at - st.cursor - passed + 1) (passed + (next_of m s now r).passed) (next_of m s now r).state =
          repeating_goes_on s (take m s r) st (at - st.cursor - passed) passed now here.so_far b (ap (λ (o : Outcome). o.byte) n) (next_takes_one m s now r b (ap (λ (o : Outcome). o.byte) n)) in
          let same : at - st.cursor - passed + 1 ≡ (place + 1) - st.cursor - (passed + (place - at)) = omega (arith, here.started, lands) in
          record {
            so_far = rw same at (rw state_on at (rw n at took));
            stands =
                standing_on s r st at count here.stands place count_on (omega arith) h (count_behind_fits m s (counts_digits m.flags r) b count)
                (tells_count st r at count (m.digit b) here.stands.counted (place + 1) (has_any_flag m.flags));
            started = omega (arith, here.started, lands);
          }

      -- where the end is found the list of takes is over
      pub running_over : length s ≤ place
          → record { refusal = 0; byte = None; taken = at - st.cursor - passed; passed = passed + (place - at); state = state_at st r place count }
          ≡ repeated (length s) (take m s r) st
      running_over out =
          let last = takes_end out in
          let over = repeating_ends s (take m s r) st (at - st.cursor - passed) passed now here.so_far (ap (λ (o : Outcome). o.byte) last) in
          rw (last, add-zero (at - st.cursor - passed)) at over

    -- so it is where the loop comes to the end: the last take passes nothing
    pub running_out : length s ≤ at
        → record { refusal = 0; byte = None; taken = at - st.cursor - passed; passed = passed; state = now } ≡ repeated (length s) (take m s r) st
    running_out out =
        let stays : at ≡ at + passed_at m s (eqb count 0) at = rw (end_passes_none m s (eqb count 0) at out) (omega arith) in
        let none_passed : passed + (at - at) ≡ passed = omega arith in
        rw none_passed at (running_over at stays out)

  abbrev counts : Bool
  counts = counts_digits m.flags r

  -- where the end is found, the sums are those of the list of takes
  sums_over : (n at count passed : ℕ) → Running m s r st at count passed → length s ≤ lands_at m s at count
      → sums_outcome st r (sums_from m s counts n at count passed) ≡ repeated (length s) (take m s r) st
  sums_over n at count passed here out =
      let same : lands_at m s at count - st.cursor - (passed + (lands_at m s at count - at)) ≡ at - st.cursor - passed = omega (arith, here.started) in
      rw (sums_end m s counts n at count passed out, same) (running_over at count passed here (lands_at m s at count) refl out)

  -- and so they are from wherever it has come to
  sums_from_lem : (n at count passed : ℕ) → length s ≤ at + n → Running m s r st at count passed
      → sums_outcome st r (sums_from m s counts n at count passed) ≡ repeated (length s) (take m s r) st
  sums_from_lem zero at count passed few here = sums_over 0 at count passed here (omega arith)
  sums_from_lem (suc n) at count passed few here =
      go (ltb (lands_at m s at count) (length s)) refl
      (λ on. sums_from_lem n (lands_at m s at count + 1) (count_behind m counts (get_or s (lands_at m s at count) 0) count) (passed + (lands_at m s at count - at)) (omega arith) on) where
        go : (t : Bool) → ltb (lands_at m s at count) (length s) ≡ t
            → (Running m s r st (lands_at m s at count + 1) (count_behind m counts (get_or s (lands_at m s at count) 0) count) (passed + (lands_at m s at count - at))
            → sums_outcome st r (sums_from m s counts n (lands_at m s at count + 1) (count_behind m counts (get_or s (lands_at m s at count) 0) count) (passed + (lands_at m s at count - at)))
            ≡ repeated (length s) (take m s r) st)
            → sums_outcome st r (sums_from m s counts (suc n) at count passed) ≡ repeated (length s) (take m s r) st
        go false t rest = sums_over (suc n) at count passed here (ltb-false (lands_at m s at count) (length s) t)
        go true t rest =
            let h = ltb-true (lands_at m s at count) (length s) t in
            rw (sums_on m s counts n at count passed h) (rest (running_on at count passed here (lands_at m s at count) refl h))

  -- the sums from a state's place and count are the takes' own
  pub sums_are_takes : sums_outcome st r (take_sums_from m s (counts_digits m.flags r) st.cursor (count_of st r)) ≡ next_all_of m s st r
  unfolding take_sums_from next_all_of
  sums_are_takes = sums_from_lem (length s) st.cursor (count_of st r) 0 (omega arith) running_starts

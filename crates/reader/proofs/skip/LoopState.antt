-- A loop on plain numbers: when a place and a count stand for a state, and what a peek from there sees: for both
-- loops, of takes and of zeros. Assumes nothing.
use Rattle.std.proofs.Common.{◌≡◌, ℕ, ◌+◌, ◌-◌, ◌<◌, ◌≤◌, eqb, List, length, sym, ◌∙◌, arith}
use Rattle.reader.specs.declared.state.Reader.{Reader}
use Rattle.reader.specs.declared.state.State.{State}
use Rattle.reader.specs.Place.{byte_at}
use Rattle.reader.specs.Reading.{Reading, passed_at}
use Rattle.reader.specs.State.{count_of, count_sum}
use Rattle.reader.specs.Calls.{refusal_with, peeked, peek_of}
use Rattle.reader.proofs.state.Refusals.{still_admitted, peek_admitted}
use Rattle.reader.proofs.state.Updates.{at_cursor, count_in_sum, moved_on, own_count_lem, state_at, sum_on}

module _ (s : List ℕ) (r : Reader) (st : State) where
  -- A place and a count that the state there tells, with the counts within the place and the place within the buffer.
  pub record Standing (at count : ℕ) : Type 0 where
    pub counted : count_of (state_at st r at count) r ≡ count
    pub sums : count_sum (state_at st r at count) ≤ at
    pub inside : at ≤ length s

  pub standing_starts : (st.cursor ≤ length s) × (count_sum st ≤ st.cursor) → Standing st.cursor (count_of st r)
  standing_starts w = let same = own_count_lem st r in record { counted = rw same; sums = rw same w.1; inside = w.0 }

  module _ (at count : ℕ) (here : Standing at count) where
    -- the count is within the place
    pub standing_counts : count ≤ at
    standing_counts = omega (arith, here.counted, here.sums, count_in_sum (state_at st r at count) r)

    -- one byte on, with a count that grew by no more than one
    pub standing_on : (place n : ℕ) → at ≤ place → place < length s → n ≤ count + 1 → count_of (state_at st r (place + 1) n) r ≡ n → Standing (place + 1) n
    standing_on place n from h few tells =
        record { counted = tells; sums = omega (arith, here.sums, sum_on st r at (place + 1) count n few); inside = omega arith }

    -- A peek from there sees the byte at the place where the cursor lands.
    pub peeks_at :
        (m : Reading) → refusal_with m.flags s st r ≡ 0 → (place : ℕ) → place ≡ at + passed_at m s (eqb count 0) at
        → peek_of m s (state_at st r at count) r
        ≡ record { refusal = 0; byte = byte_at s place; taken = 0; passed = place - at; state = state_at st r place count }
    unfolding peeked
    peeks_at m clear place lands =
        let c = at_cursor st r at count in
        let open-now = still_admitted m.flags s st (state_at st r at count) r (rw c here.inside) (rw c here.sums) clear in
        let passes : passed_at m s (eqb count 0) at ≡ place - at = omega arith in
        peek_admitted m s (state_at st r at count) r open-now
        ∙ rw (here.counted, moved_on, c, sym lands, passes)

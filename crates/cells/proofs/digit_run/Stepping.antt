-- A step of a digit run from a place with a count, over any reading: where it ends the run, and what it takes. Assumes nothing.
use Rattle.std.proofs.Common.{◌≡◌, ℕ, zero, suc, ◌+◌, ◌-◌, ◌<◌, ◌≤◌, Bool, true, false, cond, ◌&&◌, eqb, List, [], length, get_or, Some, None, Option, refl, arith}
use Rattle.reader.specs.declared.state.Reader.{Reader}
use Rattle.reader.specs.declared.state.Reader.TheVariants.{Integer, Fraction, Exponent, Special}
use Rattle.reader.specs.declared.state.State.{State}
use Rattle.reader.specs.Place.{byte_at}
use Rattle.reader.specs.Reading.{Reading, has_any_flag, passed_at}
use Rattle.reader.specs.State.{count_sum, moved_to, counted_by}
use Rattle.reader.specs.Code.TakeSums.{with_count}
use Rattle.reader.specs.Calls.{peek_of, taken_from, next_of}
use Rattle.reader.proofs.passing.Places.{byte_here, no_byte, byte_inside}
use Rattle.reader.proofs.passing.Passed.{passed_fits}
use Rattle.reader.proofs.state.Updates.{state_at, past_byte, counts_one, counted_tells}
use Rattle.reader.proofs.skip.LoopState.{Standing, peeks_at}
use Rattle.cells.specs.DigitRun.{sees_digit, digits_from}
use Rattle.cells.specs.Code.Steps.{Stands, run_at, digit_then, Takes, Ends}

-- the sum of the counts does not go by the place
pub sum_stays : (st : State) (r : Reader) (at to count : ℕ) → count_sum (state_at st r to count) ≡ count_sum (state_at st r at count)
unfolding with_count moved_to
sum_stays st Integer at to count = refl
sum_stays st Fraction at to count = refl
sum_stays st Exponent at to count = refl
sum_stays st Special at to count = refl

-- where a digit is seen there is a byte
pub digit_inside : (m : Reading) (s : List ℕ) (at : ℕ) → sees_digit m (byte_at s at) ≡ true → at < length s
digit_inside m s at = go (byte_at s at) refl where
  go : (o : Option ℕ) → byte_at s at ≡ o → sees_digit m o ≡ true → at < length s
  go None e h = absurd (cc)
  go (Some b) e h = byte_inside s at b e

-- the count behind a byte
abbrev pub count_behind : Reading → ℕ → ℕ → ℕ
count_behind m b count = cond (has_any_flag m.flags && m.digit b) (count + 1) count

pub count_grows : (m : Reading) (b count : ℕ) → (count ≤ count_behind m b count) × (count_behind m b count ≤ count + 1)
count_grows m b count = go (has_any_flag m.flags && m.digit b) where
  go : (t : Bool) → (count ≤ cond t (count + 1) count) × (cond t (count + 1) count ≤ count + 1)
  go true = (omega arith, omega arith)
  go false = (omega arith, omega arith)

module _ (m : Reading) (s : List ℕ) (r : Reader) (st : State) where
  pub further : (at count : ℕ) → Stands m.flags s r st at count → (place : ℕ) → at ≤ place → place ≤ length s → Stands m.flags s r st place count
  further at count here place on in_Buffer =
      record { clear = here.clear; counted = here.counted; sums = omega (arith, here.sums, sum_stays st r at place count); inside = in_Buffer }

  -- the state behind a byte
  taken_to : (place b count : ℕ) → taken_from m r b (state_at st r place count) ≡ state_at st r (place + 1) (count_behind m b count)
  taken_to place b count = rw (past_byte st r place count) (go (has_any_flag m.flags && m.digit b)) where
    go : (t : Bool) → cond t (counted_by (state_at st r (place + 1) count) r) (state_at st r (place + 1) count) ≡ state_at st r (place + 1) (cond t (count + 1) count)
    go true = counts_one st r (place + 1) count
    go false = refl

  module _ (at count : ℕ) (here : Stands m.flags s r st at count) where
    standing : Standing s r st at count
    standing = record { counted = counted_tells st r at count here.counted; sums = here.sums; inside = here.inside }

    -- a peek from there
    pub sees : (place : ℕ) → place ≡ at + passed_at m s (eqb count 0) at
        → peek_of m s (state_at st r at count) r ≡ record { refusal = 0; byte = byte_at s place; taken = 0; passed = place - at; state = state_at st r place count }
    sees place lands = peeks_at s r st at count standing m here.clear place lands

    -- a take from there
    pub takes_byte : (to : ℕ) → to ≡ at + passed_at m s (eqb count 0) at → to < length s
        → next_of m s (state_at st r at count) r
        ≡ record { refusal = 0; byte = Some (get_or s to 0); taken = 1; passed = to - at; state = state_at st r (to + 1) (count_behind m (get_or s to 0) count) }
    unfolding next_of
    takes_byte to lands h = rw (sees to lands, byte_here s to h, taken_to to (get_or s to 0) count)

    pub takes_none : (to : ℕ) → to ≡ at + passed_at m s (eqb count 0) at → length s ≤ to
        → next_of m s (state_at st r at count) r ≡ record { refusal = 0; byte = None; taken = 0; passed = to - at; state = state_at st r to count }
    unfolding next_of
    takes_none to lands out = rw (sees to lands, no_byte s to out)

    module _ (place : ℕ) (lands : place ≡ at + passed_at m s (eqb count 0) at) where
      pub place_inside : place ≤ length s
      place_inside = omega (arith, lands, passed_fits m s (eqb count 0) at here.inside)

      -- where the peek sees no digit the run is over
      stops : sees_digit m (byte_at s place) ≡ false → (n : ℕ)
          → run_at m s r st n at count ≡ record { digits = []; passed = place - at; state = state_at st r place count }
      unfolding digits_from
      stops other zero = rw (sees place lands)
      stops other (suc n) = rw (sees place lands, other)

      pub ends : sees_digit m (byte_at s place) ≡ false → Ends m s r st at count place (place - at)
      ends other = record { all = λ n enough. stops other n; moves = omega (arith, lands); inside = place_inside }

  -- where it sees one, the take goes from there
  module _ (at count : ℕ) (here : Stands m.flags s r st at count) (place : ℕ) (lands : place ≡ at + passed_at m s (eqb count 0) at)
      (digit : sees_digit m (byte_at s place) ≡ true) (to : ℕ) (again : to ≡ place + passed_at m s (eqb count 0) place) where
    abbrev over : ℕ
    over = place - at + (to - place)

    on : Stands m.flags s r st place count
    on = further at count here place (omega (arith, lands)) (place_inside at count here place lands)

    goes_on : to < length s → (n : ℕ)
        → run_at m s r st (suc n) at count ≡ digit_then (get_or s to 0) over (run_at m s r st n (to + 1) (count_behind m (get_or s to 0) count))
    unfolding digits_from
    goes_on h n = rw (sees at count here place lands, digit, takes_byte place count on to again h)

    pub takes : to < length s → Takes m s r st at count (get_or s to 0) (to + 1) (count_behind m (get_or s to 0) count) over
    takes h =
        let reached : at + over ≡ to = omega (arith, lands, again) in
        record {
          more = goes_on h;
          moves = omega (arith, lands, again);
          inside = omega arith;
          byte = rw reached;
          grows = count_grows m (get_or s to 0) count;
          stays = λ none_passed. omega (arith, lands, none_passed);
        }

    -- a take that finds no byte: so does the peek behind it
    stops-behind : length s ≤ to → (n : ℕ) → length s ≤ at + n → run_at m s r st n at count ≡ record { digits = []; passed = over; state = state_at st r to count }
    unfolding digits_from
    stops-behind out zero enough = absurd (omega (arith, enough, lands, digit_inside m s place digit))
    stops-behind out (suc n) enough =
        let at_end = further place count on to (omega (arith, again)) (place_inside place count on to again) in
        let stays : to ≡ to + passed_at m s (eqb count 0) to = omega (arith, out, passed_fits m s (eqb count 0) to at_end.inside) in
        let none_seen : sees_digit m (byte_at s to) ≡ false = rw (no_byte s to out) in
        let nothing : place - at + (to - place) + (to - to) ≡ place - at + (to - place) = omega arith in
        rw (sees at count here place lands, digit, takes_none place count on to again out, stops to count at_end to stays none_seen n, nothing)

    pub ends_behind : length s ≤ to → Ends m s r st at count to over
    ends_behind out =
        record { all = stops-behind out; moves = omega (arith, lands, again); inside = place_inside place count on to again }

-- The loop of a zero skip on plain numbers: how its numbers stand for the state of a list of reads of `0`. Assumes nothing.
use Rattle.std.proofs.Common.{◌≡◌, ℕ, ◌+◌, ◌-◌, ◌<◌, ◌≤◌, Bool, true, false, ◌&&◌, eqb, ltb, List, length, get_or, Some, None, sym, refl, ap, ◌∙◌, add-zero, arith, ltb-false, ltb-true, eqb-true}
use borrow.Author.Tests.{eqb-false}
use Rattle.std.proofs.lemmas.Bool.{false≢true}
use Rattle.reader.specs.declared.state.Reader.{Reader}
use Rattle.reader.specs.declared.state.State.{State}
use Rattle.reader.specs.declared.passing.Syntax.{Syntax}
use Rattle.reader.specs.Place.{byte_at}
use Rattle.reader.specs.Reading.{Reading, passed_at}
use Rattle.reader.specs.State.{count_of}
use Rattle.reader.specs.Answer.{Outcome}
use Rattle.reader.specs.Calls.{peek_of, read_if_of}
use Rattle.reader.specs.ZeroSkip.{skip_refusal, is_zero, zero_read_of, skipped, skip_zeros_of}
use Rattle.reader.proofs.passing.Places.{no_separator, byte_here, no_byte}
use Rattle.reader.proofs.passing.Landings.{landing_of, stays_on_other}
use Rattle.reader.proofs.state.Refusals.{skip_within, skip_admits}
use Rattle.reader.proofs.Repeats.{Repeating, repeating_starts, repeating_ends, repeating_goes_on}
use Rattle.reader.proofs.state.Updates.{state_at, own_count_lem, at_cursor, past_byte, counts_one, counted_tells}
use Rattle.reader.proofs.skip.LoopState.{Standing, standing_starts, standing_counts, standing_on, peeks_at}
use Rattle.reader.proofs.iterator.Zeros.{zero_takes_one, skip_admitted}

-- there is a byte at the place, and it is `0`
abbrev pub zero_at : List ℕ → ℕ → Bool
zero_at s place = ltb place (length s) && is_zero (get_or s place 0)

pub zero_there : (s : List ℕ) (place : ℕ) → zero_at s place ≡ true → (place < length s) × (is_zero (get_or s place 0) ≡ true)
zero_there s place t = go (ltb place (length s)) refl where
  go : (u : Bool) → ltb place (length s) ≡ u → (place < length s) × (is_zero (get_or s place 0) ≡ true)
  go true e = (ltb-true place (length s) e, rw e at t)
  go false e = absurd (false≢true (rw e at t))

-- a zero that is no separator: nothing is passed there
pub record PlainZero (x : Syntax) (s : List ℕ) (at : ℕ) : Type 0 where
  pub zero : zero_at s at ≡ true
  pub stays : (is_first : Bool) → at ≡ landing_of x s is_first at

pub plain_zero : (x : Syntax) (s : List ℕ) (at : ℕ) → eqb x.separator 48 ≡ false → zero_at s at ≡ true → PlainZero x s at
plain_zero x s at other zero =
    let there = zero_there s at zero in
    let b : get_or s at 0 ≡ 48 = eqb-true (get_or s at 0) 48 there.1 in
    record {
      zero = zero;
      stays = λ is_first. stays_on_other x s is_first at there.0 (no_separator x.separator (get_or s at 0) (λ q. eqb-false x.separator 48 other (sym q ∙ b)));
    }

module _ (m : Reading) (s : List ℕ) (r : Reader) (st : State) where
  -- The loop stands at a place with a count, and has taken and passed so many: these are the numbers of a list of reads from `st`.
  pub record Skipping (at count taken passed : ℕ) : Type 0 where
    pub so_far : Repeating s (zero_read_of m s r) st taken passed (state_at st r at count)
    pub stands : Standing s r st at count

  -- what is taken and passed lies before the place
  pub skipping_sums : (at count taken passed : ℕ) → Skipping at count taken passed → taken + passed ≤ at
  skipping_sums at count taken passed here = omega (arith, here.so_far.moves, at_cursor st r at count)

  -- where a zero is taken, there is room for one more
  pub skipping_room : (at count taken passed : ℕ) → Skipping at count taken passed → (place : ℕ) → at ≤ place → zero_at s place ≡ true
      → (place < length s) × (count < length s) × (taken < length s)
  skipping_room at count taken passed here place on t =
      let inside = (zero_there s place t).0 in
      let sums = skipping_sums at count taken passed here in
      let counts = standing_counts s r st at count here.stands in
      (inside, omega arith, omega arith)

module _ (m : Reading) (s : List ℕ) (r : Reader) (st : State) (clear : skip_refusal m.flags s st r ≡ 0) where
  pub skipping_starts : Skipping m s r st st.cursor (count_of st r) 0 0
  skipping_starts =
      record {
        so_far = rw (own_count_lem st r) (repeating_starts s (zero_read_of m s r) st);
        stands = standing_starts s r st (skip_within m.flags s st r clear);
      }

  module _ (at count taken passed : ℕ) (here : Skipping m s r st at count taken passed) where
    abbrev now : State
    now = state_at st r at count

    module _ (place : ℕ) (lands : place ≡ at + passed_at m s (eqb count 0) at) where
      seen : peek_of m s now r ≡ record { refusal = 0; byte = byte_at s place; taken = 0; passed = place - at; state = state_at st r place count }
      seen = peeks_at s r st at count here.stands m (skip_admits m.flags s st r clear).1 place lands

      takes_zero : zero_at s place ≡ true → zero_read_of m s r now
          ≡ record { refusal = 0; byte = Some (get_or s place 0); taken = 1; passed = place - at; state = state_at st r (place + 1) (count + 1) }
      unfolding zero_read_of read_if_of
      takes_zero t =
          let zero = zero_there s place t in
          rw (seen, byte_here s place zero.0, zero.1, past_byte st r place count, counts_one st r (place + 1) count)

      -- a read declines a byte that is no `0`, and the end
      declines : zero_at s place ≡ false → zero_read_of m s r now
          ≡ record { refusal = 0; byte = None; taken = 0; passed = place - at; state = state_at st r place count }
      unfolding zero_read_of read_if_of
      declines t = go (ltb place (length s)) refl where
        go : (u : Bool) → ltb place (length s) ≡ u → zero_read_of m s r now
            ≡ record { refusal = 0; byte = None; taken = 0; passed = place - at; state = state_at st r place count }
        go true e =
            let other : is_zero (get_or s place 0) ≡ false = rw e at t in
            rw (seen, byte_here s place (ltb-true place (length s) e), other)
        go false e = rw (seen, no_byte s place (ltb-false place (length s) e))

      pub skipping_on : zero_at s place ≡ true → Skipping m s r st (place + 1) (count + 1) (taken + 1) (passed + (place - at))
      skipping_on t =
          let b = get_or s place 0 in
          let read = takes_zero t in
          let byte = ap (λ (o : Outcome). o.byte) read in
          let on = repeating_goes_on s (zero_read_of m s r) st taken passed now here.so_far b byte (zero_takes_one m s now r b byte) in
          record {
            so_far = rw read at on;
            stands =
                standing_on s r st at count here.stands place (count + 1) (omega arith) (zero_there s place t).0 (omega arith)
                (counted_tells st r (place + 1) (count + 1) (skip_admits m.flags s st r clear).0);
          }

      -- where a read declines the skip is over
      pub skipping_over : zero_at s place ≡ false
          → record { refusal = 0; zeros = Some taken; taken = taken; passed = passed + (place - at); state = state_at st r place count } ≡ skip_zeros_of m s st r
      skipping_over t =
          let last = declines t in
          let over = repeating_ends s (zero_read_of m s r) st taken passed now here.so_far (ap (λ (o : Outcome). o.byte) last) in
          ap skipped (rw (last, add-zero taken) at over) ∙ skip_admitted m s st r clear

    -- a turn that passes nothing
    pub skipping_by_one : at ≡ at + passed_at m s (eqb count 0) at → zero_at s at ≡ true → Skipping m s r st (at + 1) (count + 1) (taken + 1) passed
    skipping_by_one stays t = let none_passed : passed + (at - at) ≡ passed = omega arith in rw none_passed at (skipping_on at stays t)

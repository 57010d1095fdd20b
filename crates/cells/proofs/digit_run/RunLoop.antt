-- The loop of a digit run: its numbers stand for the digits taken so far, and the run goes on from them. Over every word and radix.
-- Assumes nothing.
use Rattle.std.proofs.Common.{◌≡◌, ℕ, suc, ◌+◌, ◌-◌, ◌^◌, ◌<◌, ◌≤◌, Bool, true, false, eqb, List, [], length, refl, ap, ◌∙◌, arith, le-ltb, lt-ltb, ne_eqb}
use Rattle.word.specs.Digit.{digit_value}
use Rattle.reader.specs.declared.state.Reader.{Reader}
use Rattle.reader.specs.declared.state.State.{State}
use Rattle.reader.specs.declared.passing.Syntax.{Syntax}
use Rattle.reader.specs.Reading.{Reading, reading_with, passed_at}
use Rattle.reader.specs.State.{count_of}
use Rattle.reader.specs.ZeroSkip.{skip_refusal}
use Rattle.reader.proofs.state.Refusals.{within, skip_admits}
use Rattle.reader.proofs.state.Updates.{state_at, own_count_lem, sum_on}
use Rattle.cells.specs.Value.{with_digit, value_from, value_of}
use Rattle.cells.specs.DigitRun.{Digits, refused_run, taken_run, run_refusal, digit_run_of}
use Rattle.cells.specs.Code.Steps.{Stands, run_at, digit_then, Takes, Ends, still_refused, ended_run}
use Rattle.cells.proofs.value.Growing.{stays_above, radix_above}
use Rattle.cells.proofs.digit_run.RefusedRuns.{next_refused}

module _ (x : Syntax) (s : List ℕ) (r : Reader) (st : State) where
  abbrev m : Reading
  m = reading_with x

  abbrev all : Digits
  all = taken_run m s st r

  -- so many digits are taken and separators passed, they come to this value, and the run goes on from a place with a count
  pub record Running (at count value taken passed : ℕ) (refused : Bool) : Type 0 where
    pub worth : value_of x.radix all.digits ≡ value_from x.radix value (run_at m s r st (length s - taken) at count).digits
    pub many : length all.digits ≡ taken + length (run_at m s r st (length s - taken) at count).digits
    pub over : all.passed ≡ passed + (run_at m s r st (length s - taken) at count).passed
    pub end : all.state ≡ (run_at m s r st (length s - taken) at count).state
    pub stands : Stands x.flags s r st at count
    pub moved : st.cursor + taken + passed ≡ at
    pub known : refused ≡ true → passed_at m s (eqb count 0) at ≡ 0
    pub small : value < 2 ^ 64

  -- what is known of a separator need not be
  pub unknown : (at count value taken passed : ℕ) (refused : Bool) → Running at count value taken passed refused → Running at count value taken passed false
  unknown at count value taken passed refused now =
      record {
        worth = now.worth;
        many = now.many;
        over = now.over;
        end = now.end;
        stands = now.stands;
        moved = now.moved;
        known = λ e. absurd (cc);
        small = now.small;
      }

  module _ (clear : skip_refusal x.flags s st r ≡ 0) where
    pub running_starts : Running st.cursor (count_of st r) 0 0 0 false
    unfolding value_of
    running_starts =
        let admits = skip_admits x.flags s st r clear in
        let inside = within x.flags s st r admits.1 in
        let untouched : length s - 0 ≡ length s = omega arith in
        record {
          worth = rw (untouched, own_count_lem st r);
          many = rw (untouched, own_count_lem st r) (omega arith);
          over = rw (untouched, own_count_lem st r) (omega arith);
          end = rw (untouched, own_count_lem st r);
          stands = record { clear = admits.1; counted = admits.0; sums = rw (own_count_lem st r) inside.1; inside = inside.0 };
          moved = omega arith;
          known = λ e. absurd (cc);
          small = omega arith;
        }

    module _ (at count value taken passed : ℕ) (refused : Bool) (now : Running at count value taken passed refused) where
      -- a step that takes a byte
      module _ (c to behind over : ℕ) (took : Takes m s r st at count c to behind over) where
        steps : length s - taken ≡ suc (length s - (taken + 1))
        steps = omega (arith, now.moved, took.moves, took.inside)

        on : run_at m s r st (length s - taken) at count ≡ digit_then c over (run_at m s r st (length s - (taken + 1)) to behind)
        on = ap (λ (n : ℕ). run_at m s r st n at count) steps ∙ took.more (length s - (taken + 1))

        on_worth : value_of x.radix all.digits
            ≡ value_from x.radix (with_digit x.radix value (digit_value c)) (run_at m s r st (length s - (taken + 1)) to behind).digits
        on_worth = now.worth ∙ ap (λ (d : Digits). value_from x.radix value d.digits) on

        on_many : length all.digits ≡ taken + 1 + length (run_at m s r st (length s - (taken + 1)) to behind).digits
        on_many = now.many ∙ ap (λ (d : Digits). taken + length d.digits) on ∙ omega arith

        pub running_on : (v : ℕ) → v ≡ with_digit x.radix value (digit_value c) → v < 2 ^ 64
            → Running to behind v (taken + 1) (passed + over) (still_refused x c over count)
        running_on v same fits =
            record {
              worth = rw same on_worth;
              many = on_many;
              over = now.over ∙ ap (λ (d : Digits). passed + d.passed) on ∙ omega arith;
              end = now.end ∙ ap (λ (d : Digits). d.state) on;
              stands =
                  record {
                    clear = now.stands.clear;
                    counted = now.stands.counted;
                    sums = omega (arith, now.stands.sums, took.moves, sum_on st r at to count behind took.grows.1);
                    inside = took.inside;
                  };
              moved = omega (arith, now.moved, took.moves);
              known = next_refused x s r st at count c to behind over took;
              small = fits;
            }

        -- the numbers stay within the buffer, and the place moves on
        pub running_room : (taken < length s) × ((passed + over ≤ length s) × (length s - to < length s - at))
        running_room = (omega (arith, now.moved, took.moves, took.inside), (omega (arith, now.moved, took.moves, took.inside), omega (arith, took.moves, took.inside)))

        -- a value above 64 bits refuses the run, whatever digits follow
        pub running_outgrown : 2 ^ 64 ≤ with_digit x.radix value (digit_value c) → refused_run 24 st ≡ digit_run_of x s st r
        unfolding digit_run_of run_refusal
        running_outgrown above =
            let some_taken : eqb (length all.digits) 0 ≡ false = ne_eqb (length all.digits) 0 (λ e. omega (arith, e, on_many)) in
            let big : 2 ^ 64 ≤ value_of x.radix all.digits =
            rw on_worth (stays_above x.radix (with_digit x.radix value (digit_value c)) (run_at m s r st (length s - (taken + 1)) to behind).digits (radix_above value x.radix c now.small above) above) in
            rw (clear, some_taken, le-ltb (value_of x.radix all.digits) (2 ^ 64) big)

      -- a step that takes none
      module _ (to over : ℕ) (last : Ends m s r st at count to over) where
        pub over_fits : passed + over ≤ length s
        over_fits = omega (arith, now.moved, last.moves, last.inside)

        rest : run_at m s r st (length s - taken) at count ≡ record { digits = []; passed = over; state = state_at st r to count }
        rest = last.all (length s - taken) (omega (arith, now.moved))

        worth_all : value_of x.radix all.digits ≡ value
        worth_all = now.worth ∙ ap (λ (d : Digits). value_from x.radix value d.digits) rest

        many_all : length all.digits ≡ taken
        many_all = now.many ∙ ap (λ (d : Digits). taken + length d.digits) rest ∙ omega arith

        passed_all : all.passed ≡ passed + over
        passed_all = now.over ∙ ap (λ (d : Digits). passed + d.passed) rest

        end_all : all.state ≡ state_at st r to count
        end_all = now.end ∙ ap (λ (d : Digits). d.state) rest

        pub running_over : ended_run st value taken (passed + over) (state_at st r to count) ≡ digit_run_of x s st r
        unfolding digit_run_of run_refusal
        running_over = go (eqb taken 0) refl where
          go : (t : Bool) → eqb taken 0 ≡ t → ended_run st value taken (passed + over) (state_at st r to count) ≡ digit_run_of x s st r
          go true t = rw (t, clear, many_all, t)
          go false t = rw (t, clear, many_all, t, worth_all, lt-ltb value (2 ^ 64) now.small, passed_all, end_all)

-- A step of a digit run by the answers of the reader's calls, as the functions meet them. Assumes nothing.
use Rattle.std.proofs.Common.{◌≡◌, ℕ, ◌+◌, ◌-◌, ◌<◌, ◌≤◌, Bool, true, false, cond, ◌&&◌, ◌||◌, eqb, ltb, List, length, get_or, Some, None, Option, Result, sym, refl, ap, ◌∙◌, arith, ltb-false, ltb-true}
use Rattle.word.specs.Digit.{is_digit}
use Rattle.reader.specs.declared.state.Reader.{Reader}
use Rattle.reader.specs.declared.state.Reader.TheVariants.{Integer, Fraction, Exponent, Special}
use Rattle.reader.specs.declared.state.State.{State}
use Rattle.reader.specs.declared.passing.Syntax.{Syntax}
use Rattle.reader.specs.declared.state.Refusal.{Refusal}
use Rattle.reader.specs.declared.answer.Answer.{Answer}
use Rattle.reader.specs.Place.{byte_at}
use Rattle.reader.specs.Reading.{Reading, syntax_for, syntax_on, reading_with, reading_for, has_any_flag, passed_at}
use Rattle.reader.specs.State.{Sheet, sheet_of, count_of, moved_to}
use Rattle.reader.specs.Code.TakeSums.{with_count}
use Rattle.reader.specs.Answer.{Outcome, outcome_of, found_in}
use Rattle.reader.specs.Calls.{peek_of, next_of}
use Rattle.reader.proofs.passing.Places.{byte_here, no_byte, no_separator}
use Rattle.reader.proofs.passing.Landings.{stays_on_other, stays_at_end}
use Rattle.reader.proofs.state.Updates.{state_at, at_cursor, counted_tells}
use Rattle.reader.proofs.ByteTally.Steps.{take_step}
use Rattle.cells.specs.declared.digit_run.Step.{Step}
use Rattle.cells.specs.declared.digit_run.Step.TheVariants as step
use Rattle.cells.specs.DigitRun.{sees_digit}
use Rattle.cells.specs.Code.Steps.{step_of_byte, step_behind, Stands, StepTold, Takes, Ends}
use Rattle.cells.proofs.digit_run.Stepping.{further, sees, takes_byte, takes_none, place_inside, ends, count_behind, takes, ends_behind}

-- a place and a count leave what of the state says how it is read
sheet_stays : (st : State) (r : Reader) (at count : ℕ) → sheet_of (state_at st r at count) ≡ sheet_of st
unfolding with_count moved_to
sheet_stays st Integer at count = refl
sheet_stays st Fraction at count = refl
sheet_stays st Exponent at count = refl
sheet_stays st Special at count = refl

-- what a take passes fits behind what was passed before it
pub take_fits : (m : Reading) (s : List ℕ) (st : State) (r : Reader) (over : ℕ) → over ≤ st.cursor → st.cursor ≤ length s
    → over + (next_of m s st r).passed ≤ length s
take_fits m s st r over before in_Buffer =
    let step = take_step (λ q. m) s st r in omega (arith, before, step.cursor, step.inside in_Buffer)

-- a take's answer as a step
module _ (took : Answer (Result (Option ℕ) Refusal)) (r : Reader) (over : ℕ) (o : Outcome) (told : outcome_of took ≡ o) where
  pub step_taken : (c : ℕ) → found_in took.report.found ≡ Some c → (behind : ℕ) → behind ≡ count_of took.state r
      → step.Taken c took.state.cursor behind (over + took.report.passed) ≡ step_behind r over o
  step_taken c e behind counts =
      let one : step.Taken c took.state.cursor behind (over + took.report.passed) ≡ step_of_byte (Some c) r over (outcome_of took) = rw counts in
      let known : step_of_byte (found_in took.report.found) r over (outcome_of took) ≡ step_of_byte (Some c) r over (outcome_of took) =
      ap (λ (b : Option ℕ). step_of_byte b r over (outcome_of took)) e in
      one ∙ sym known ∙ ap (step_behind r over) told

  pub step_over : found_in took.report.found ≡ None → step.Over took.state.cursor (over + took.report.passed) ≡ step_behind r over o
  step_over e =
      let known : step_of_byte (found_in took.report.found) r over (outcome_of took) ≡ step_of_byte None r over (outcome_of took) =
      ap (λ (b : Option ℕ). step_of_byte b r over (outcome_of took)) e in
      sym known ∙ ap (step_behind r over) told

-- what the digit test says of a byte that was seen
pub sees_digit_lem : (x : Syntax) (o : Option ℕ) (b : ℕ) → o ≡ Some b → (d : Bool) → d ≡ is_digit b x.radix → (t : Bool) → d ≡ t
    → sees_digit (reading_with x) o ≡ t
unfolding reading_with
sees_digit_lem x o b e d is t known = ap (sees_digit (reading_with x)) e ∙ sym is ∙ known

-- what a step is told of, by its case
module _ (m : Reading) (s : List ℕ) (r : Reader) (st : State) (at count : ℕ) (one : Step) (told : StepTold m s r st at count one) where
  pub told_takes : {c to behind over : ℕ} → one ≡ step.Taken c to behind over → Takes m s r st at count c to behind over
  told_takes e = rw e at told

  pub told_ends : {to over : ℕ} → one ≡ step.Over to over → Ends m s r st at count to over
  told_ends e = rw e at told

module _ (x : Syntax) (s : List ℕ) (r : Reader) (st : State) where
  abbrev m : Reading
  m = reading_with x

  as_own : x ≡ syntax_for st r → (at count : ℕ) → reading_for (state_at st r at count) r ≡ m
  as_own own at count = ap reading_with (ap (λ (sheet : Sheet). syntax_on sheet r) (sheet_stays st r at count) ∙ sym own)

  module _ (at count : ℕ) (here : Stands x.flags s r st at count) where
    stands : Stands m.flags s r st at count
    unfolding reading_with
    stands = here

    abbrev place : ℕ
    place = at + passed_at m s (eqb count 0) at

    abbrev to : ℕ
    to = place + passed_at m s (eqb count 0) place

    on : Stands m.flags s r st place count
    on = further m s r st at count stands place (omega arith) (place_inside m s r st at count stands place refl)

    -- the take from where a digit is seen
    take_told : sees_digit m (byte_at s place) ≡ true → StepTold m s r st at count (step_behind r (place - at) (next_of m s (state_at st r place count) r))
    take_told digit = go (ltb to (length s)) refl where
      go : (t : Bool) → ltb to (length s) ≡ t → StepTold m s r st at count (step_behind r (place - at) (next_of m s (state_at st r place count) r))
      go true e =
          let h = ltb-true to (length s) e in
          let behind = count_behind m (get_or s to 0) count in
          rw (takes_byte m s r st place count on to refl h, counted_tells st r (to + 1) behind here.counted, at_cursor st r (to + 1) behind)
          (takes m s r st at count stands place refl digit to refl h)
      go false e =
          let out = ltb-false to (length s) e in
          rw (takes_none m s r st place count on to refl out, at_cursor st r to count) (ends_behind m s r st at count stands place refl digit to refl out)

    -- a peek's answer from there
    module _ (own : x ≡ syntax_for st r) (from : State) (is : from ≡ state_at st r at count) (seen : Answer (Result (Option ℕ) Refusal)) (peeks : outcome_of seen ≡ peek_of (reading_for from r) s from r) where
      answered : outcome_of seen ≡ record { refusal = 0; byte = byte_at s place; taken = 0; passed = place - at; state = state_at st r place count }
      answered =
          peeks
          ∙ ap (λ (h : State). peek_of (reading_for h r) s h r) is
          ∙ ap (λ (y : Reading). peek_of y s (state_at st r at count) r) (as_own own at count)
          ∙ sees m s r st at count stands place refl

      byte_seen : found_in seen.report.found ≡ byte_at s place
      byte_seen = ap (λ (o : Outcome). o.byte) answered

      passed_seen : seen.report.passed ≡ place - at
      passed_seen = ap (λ (o : Outcome). o.passed) answered

      left : seen.state ≡ state_at st r place count
      left = ap (λ (o : Outcome). o.state) answered

      pub left_fits : (seen.report.passed ≤ seen.state.cursor) × (seen.state.cursor ≤ length s)
      left_fits =
          let at_place : seen.state.cursor ≡ place = ap (λ (h : State). h.cursor) left ∙ at_cursor st r place count in
          (omega (arith, at_place, passed_seen), omega (arith, at_place, place_inside m s r st at count stands place refl))

      -- no digit is seen
      pub told_over : sees_digit m (found_in seen.report.found) ≡ false → Ends m s r st at count seen.state.cursor seen.report.passed
      told_over other =
          rw (left, at_cursor st r place count, passed_seen) (ends m s r st at count stands place refl (rw byte_seen at other))

      -- a digit is seen, and the take goes from there
      pub told_taken : sees_digit m (found_in seen.report.found) ≡ true → (step : Step)
          → step ≡ step_behind r seen.report.passed (next_of (reading_for seen.state r) s seen.state r) → StepTold m s r st at count step
      told_taken digit step took =
          let same : step ≡ step_behind r (place - at) (next_of m s (state_at st r place count) r) = rw (left, as_own own place count, passed_seen) at took in
          rw same (take_told (rw byte_seen at digit))

    -- a byte where nothing is passed
    module _ (inside : at < length s) (nothing : passed_at m s (eqb count 0) at ≡ 0) where
      stays : at ≡ at + passed_at m s (eqb count 0) at
      stays = rw nothing (omega arith)

      counts_on : (flagged digit : Bool) → digit ≡ true → cond (flagged && digit) (count + 1) count ≡ cond flagged (count + 1) count
      counts_on true digit e = rw e
      counts_on false digit e = refl

      pub plain_taken : is_digit (get_or s at 0) x.radix ≡ true → (behind : ℕ) → behind ≡ cond (has_any_flag x.flags) (count + 1) count
          → Takes m s r st at count (get_or s at 0) (at + 1) behind 0
      unfolding reading_with
      plain_taken digit behind counts =
          let seen : sees_digit m (byte_at s at) ≡ true = rw (byte_here s at inside) digit in
          let none_passed : at - at + (at - at) ≡ 0 = omega arith in
          let same : count_behind m (get_or s at 0) count ≡ behind = counts_on (has_any_flag x.flags) (is_digit (get_or s at 0) x.radix) digit ∙ sym counts in
          rw (none_passed, same) at (takes m s r st at count stands at stays seen at stays inside)

      pub plain_over : is_digit (get_or s at 0) x.radix ≡ false → Ends m s r st at count at 0
      unfolding reading_with
      plain_over other =
          let none_passed : at - at ≡ 0 = omega arith in
          rw none_passed at (ends m s r st at count stands at stays (rw (byte_here s at inside) other))

    -- nothing is passed at a byte that is no separator
    pub passes_none_here : (refused : Bool) → at < length s → (refused ≡ true → passed_at m s (eqb count 0) at ≡ 0) → (differs : Bool)
        → (differs ≡ true → get_or s at 0 ≡ x.separator → ⊥) → (differs || refused) ≡ true → passed_at m s (eqb count 0) at ≡ 0
    passes_none_here refused inside known true apart e =
        omega (arith, stays_on_other x s (eqb count 0) at inside (no_separator x.separator (get_or s at 0) (apart refl)))
    passes_none_here refused inside known false apart e = known e

    pub end_over : length s ≤ at → Ends m s r st at count at 0
    end_over out =
        let stays : at ≡ at + passed_at m s (eqb count 0) at = stays_at_end x s (eqb count 0) at out in
        let none_passed : at - at ≡ 0 = omega arith in
        rw none_passed at (ends m s r st at count stands at stays (rw (no_byte s at out)))

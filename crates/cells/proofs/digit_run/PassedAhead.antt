-- What a peek passes in front of a digit may be counted before the step that takes the digit: for loops that go over a separator and
-- its digit in two turns. Assumes nothing.
use Rattle.std.proofs.Common.{◌≡◌, ℕ, suc, ◌+◌, ◌-◌, ◌<◌, true, false, eqb, List, length, get_or, refl, ap, ◌∙◌, arith}
use Rattle.reader.specs.declared.state.Reader.{Reader}
use Rattle.reader.specs.declared.state.State.{State}
use Rattle.reader.specs.declared.passing.Syntax.{Syntax}
use Rattle.reader.specs.Place.{byte_at}
use Rattle.reader.specs.Reading.{Reading, reading_with, passed_at}
use Rattle.cells.specs.Value.{value_from}
use Rattle.cells.specs.DigitRun.{Digits, sees_digit}
use Rattle.cells.specs.Code.Steps.{Stands, run_at, digit_then}
use Rattle.cells.proofs.digit_run.Stepping.{further, place_inside, takes, digit_inside}
use Rattle.cells.proofs.digit_run.RunLoop.{Running}

-- two runs whose first step takes the same digit differ in what it passes
same_but_passed : (c over : ℕ) (a b rest : Digits) → a ≡ digit_then c over rest → b ≡ digit_then c 0 rest
    → (a.digits ≡ b.digits) × (a.passed ≡ over + b.passed) × (a.state ≡ b.state)
same_but_passed c over a b rest e f = rw (e, f) (refl, omega arith, refl)

module _ (x : Syntax) (s : List ℕ) (r : Reader) (st : State) (at count value taken passed : ℕ) (now : Running x s r st at count value taken passed false)
    (place : ℕ) (lands : place ≡ at + passed_at (reading_with x) s (eqb count 0) at)
    (digit : sees_digit (reading_with x) (byte_at s place) ≡ true) (nothing : passed_at (reading_with x) s (eqb count 0) place ≡ 0) where
  abbrev m : Reading
  m = reading_with x

  stands : Stands m.flags s r st at count
  unfolding reading_with
  stands = now.stands

  on : Stands m.flags s r st place count
  on = further m s r st at count stands place (omega (arith, lands)) (place_inside m s r st at count stands place lands)

  stays : place ≡ place + passed_at m s (eqb count 0) place
  stays = rw nothing (omega arith)

  inside : place < length s
  inside = digit_inside m s place digit

  left : length s - taken ≡ suc (length s - (taken + 1))
  left = omega (arith, now.moved, lands, inside)

  same :
      ((run_at m s r st (length s - taken) at count).digits ≡ (run_at m s r st (length s - taken) place count).digits)
      × ((run_at m s r st (length s - taken) at count).passed ≡ place - at + (run_at m s r st (length s - taken) place count).passed)
      × ((run_at m s r st (length s - taken) at count).state ≡ (run_at m s r st (length s - taken) place count).state)
  same =
      let n = length s - (taken + 1) in
      let from-separator = (takes m s r st at count stands place lands digit place stays inside).more n in
      let from-digit = (takes m s r st place count on place stays digit place stays inside).more n in
      let over : place - at + (place - place) ≡ place - at = omega arith in
      let none_passed : place - place + (place - place) ≡ 0 = omega arith in
      rw left (same_but_passed (get_or s place 0) (place - at) _ _ _ (rw over at from-separator) (rw none_passed at from-digit))

  pub running_past : Running x s r st place count value taken (passed + (place - at)) false
  unfolding reading_with
  running_past =
      record {
        worth = now.worth ∙ ap (value_from x.radix value) same.0;
        many = now.many ∙ ap (λ (d : List ℕ). taken + length d) same.0;
        over = omega (arith, now.over, same.1);
        end = now.end ∙ same.2;
        stands = on;
        moved = omega (arith, now.moved, lands);
        known = λ e. absurd (cc);
        small = now.small;
      }

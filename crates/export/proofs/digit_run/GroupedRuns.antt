-- The loop over the digits of a grouped cell has the numbers of a digit run: for `grouped_run`. Assumes nothing.
use mathlib.Core.Path.{◌≡◌, refl, sym}
use mathlib.Core.Bool.{Bool, true, false, cond, and-eq-true_iff}
use mathlib.Core.List.{List}
use Rattle.std.specs.Prelude.{Some, None}
use Prim.Native.Nat.{ℕ, ◌+◌, ◌*◌, ◌-◌, ◌<◌, ◌≤◌, ◌^◌, min}
use native.Mathlib.Nat.{add-zero}
use native.Mathlib.Omega.{arith}
use lib.Dec.{leb, ltb, eqb}
use lib.ListN.{length, get_or}
use borrow.Author.Tests.{leb-true, ltb-true, ne_eqb}
use Rattle.word.specs.declared.format_flags.Format.{Format}
use Rattle.word.specs.Digit.{among, below, digit_value, is_digit}
use Rattle.reader.specs.declared.state.Reader.{Reader}
use Rattle.reader.specs.declared.passing.Syntax.{Syntax}
use Rattle.reader.specs.Place.{byte_at}
use Rattle.reader.specs.Reading.{reading_with, has_any_flag, passed_at}
use Rattle.reader.specs.State.{fresh_of}
use Rattle.reader.specs.ZeroSkip.{skip_refusal}
use Rattle.reader.proofs.passing.Places.{byte_here, no_separator}
use Rattle.reader.proofs.passing.Landings.{stays_on_other}
use Rattle.reader.proofs.state.Updates.{state_at, fresh_count}
use Rattle.cells.specs.Value.{with_digit}
use Rattle.cells.specs.DigitRun.{sees_digit, digit_run_of}
use Rattle.cells.specs.Code.Steps.{Ends}
use Rattle.cells.proofs.digit_run.Answers.{plain_taken, plain_over, end_over}
use Rattle.cells.proofs.digit_run.RunLoop.{Running, unknown, running_starts, running_on, running_over}
use Rattle.cells.proofs.digit_run.PassedAhead.{running_past}
use Rattle.export.specs.Code.GroupedCell.{Between}
use Rattle.export.proofs.DigitBehind.{lands_between}
use Rattle.export.proofs.FreshCells.{fresh_clear}

-- a decimal digit is a figure
figure_value : (c : ℕ) → is_digit c 10 ≡ true → ((48 ≤ c) × (c ≤ 57)) × (digit_value c ≡ Some (c - 48))
unfolding is_digit digit_value
figure_value c = go (among 48 57 c) (among 65 90 c) (among 97 122 c) refl refl refl where
  inside : among 48 57 c ≡ true → (48 ≤ c) × (c ≤ 57)
  inside e =
      let both = (and-eq-true_iff (leb 48 c) (leb c 57)).0 e in
      (leb-true 48 c both.0, leb-true c 57 both.1)

  not_below : (n : ℕ) → 10 ≤ n → ltb n 10 ≡ true → ⊥
  not_below n high h = omega (arith, ltb-true n 10 h)

  go : (t u v : Bool) → among 48 57 c ≡ t → among 65 90 c ≡ u → among 97 122 c ≡ v
      → below (cond t (Some (c - 48)) (cond u (Some (c - 65 + 10)) (cond v (Some (c - 97 + 10)) None))) 10 ≡ true
      → ((48 ≤ c) × (c ≤ 57)) × (cond t (Some (c - 48)) (cond u (Some (c - 65 + 10)) (cond v (Some (c - 97 + 10)) None)) ≡ Some (c - 48))
  go true u v e f g h = (inside e, refl)
  go false true v e f g h = absurd (not_below (c - 65 + 10) (omega arith) h)
  go false false true e f g h = absurd (not_below (c - 97 + 10) (omega arith) h)
  go false false false e f g h = absurd (not_below 255 (omega arith) h)

pub is_figure : (c : ℕ) → is_digit c 10 ≡ true → (48 ≤ c) × (c ≤ 57)
is_figure c digit = (figure_value c digit).0

module _ (separator : ℕ) (s : List ℕ) (x : Syntax) (f : Format) (r : Reader) (b : Between x separator 10 r) where
  clear : skip_refusal x.flags s (fresh_of f) r ≡ 0
  clear = fresh_clear x s f r b.internal b.counted

  -- nothing is passed at a byte that is no separator
  passes_none : (is_first : Bool) (at : ℕ) → at < length s → (get_or s at 0 ≡ separator → ⊥) → passed_at (reading_with x) s is_first at ≡ 0
  passes_none is_first at inside differ =
      omega (arith, stays_on_other x s is_first at inside (no_separator x.separator _ (rw b.own_separator differ)))

  pub grouped_starts : Running x s r (fresh_of f) 0 0 0 0 0 false
  grouped_starts = rw (sym (fresh_count f r)) at (running_starts x s r (fresh_of f) clear)

  -- the digits are what was gone over and not passed
  module _ (at value passed : ℕ) (few : min at 1 + passed ≤ at) (here : Running x s r (fresh_of f) at (at - passed) value (at - passed) passed false) where
    abbrev count : ℕ
    count = at - passed

    -- a digit
    pub grouped_digit : at < length s → (get_or s at 0 ≡ separator → ⊥) → is_digit (get_or s at 0) 10 ≡ true
        → (v : ℕ) → v ≡ value * 10 + (get_or s at 0 - 48) → v < 2 ^ 64
        → Running x s r (fresh_of f) (at + 1) (at + 1 - passed) v (at + 1 - passed) passed false
    grouped_digit inside differ digit v worth small =
        let nothing = passes_none (eqb count 0) at inside differ in
        let counts : count + 1 ≡ cond (has_any_flag x.flags) (count + 1) count = rw b.internal in
        let one_more : count + 1 ≡ at + 1 - passed = omega (arith, few) in
        let took = plain_taken x s r (fresh_of f) at count here.stands inside nothing (rw b.own_radix digit) (count + 1) counts in
        let grown : v ≡ with_digit x.radix value (digit_value (get_or s at 0)) = rw ((figure_value (get_or s at 0) digit).1, b.own_radix) worth in
        let on = running_on x s r (fresh_of f) clear at count value count passed false here (get_or s at 0) (at + 1) (count + 1) 0 took v grown small in
        rw (one_more, add-zero passed) at (unknown x s r (fresh_of f) (at + 1) (count + 1) v (count + 1) (passed + 0) _ on)

    -- a separator right before a digit
    pub grouped_passes : at < length s → get_or s at 0 ≡ separator → at + 1 < length s → (get_or s (at + 1) 0 ≡ separator → ⊥)
        → is_digit (get_or s (at + 1) 0) 10 ≡ true → (at ≡ 0 → ⊥)
        → Running x s r (fresh_of f) (at + 1) (at + 1 - (passed + 1)) value (at + 1 - (passed + 1)) (passed + 1) false
    unfolding reading_with
    grouped_passes inside equal more differ digit begun =
        let own = b.own_separator in
        let lands = lands_between x s at inside (rw own b.positive) (rw own equal) more (rw own differ) (rw b.own_radix digit) b.internal in
        let nothing = passes_none (eqb count 0) (at + 1) more differ in
        let sees : sees_digit (reading_with x) (byte_at s (at + 1)) ≡ true = rw (byte_here s (at + 1) more, b.own_radix) digit in
        let one : passed + (at + 1 - at) ≡ passed + 1 = omega arith in
        let same : count ≡ at + 1 - (passed + 1) = omega arith in
        let counted : eqb count 0 ≡ false = ne_eqb count 0 (λ z. begun (omega (arith, z, few))) in
        rw (one, same) at (running_past x s r (fresh_of f) at count value count passed here (at + 1) (rw counted lands) sees nothing)

    -- another byte, or the end
    ends : (at ≡ 0 → ⊥) → Ends (reading_with x) s r (fresh_of f) at count at 0
        → record { refusal = 0; value = Some value; taken = count; passed = passed; state = state_at (fresh_of f) r at count } ≡ digit_run_of x s (fresh_of f) r
    ends begun last =
        let counted : eqb count 0 ≡ false = ne_eqb count 0 (λ z. begun (omega (arith, z, few))) in
        rw (counted, add-zero passed) at (running_over x s r (fresh_of f) clear at count value count passed false here at 0 last)

    pub grouped_stops : (at ≡ 0 → ⊥) → at < length s → (get_or s at 0 ≡ separator → ⊥) → is_digit (get_or s at 0) 10 ≡ false
        → record { refusal = 0; value = Some value; taken = count; passed = passed; state = state_at (fresh_of f) r at count } ≡ digit_run_of x s (fresh_of f) r
    grouped_stops begun inside differ other =
        ends begun (plain_over x s r (fresh_of f) at count here.stands inside (passes_none (eqb count 0) at inside differ) (rw b.own_radix other))

    pub grouped_out : (at ≡ 0 → ⊥) → length s ≤ at
        → record { refusal = 0; value = Some value; taken = count; passed = passed; state = state_at (fresh_of f) r at count } ≡ digit_run_of x s (fresh_of f) r
    grouped_out begun out = ends begun (end_over x s r (fresh_of f) at count here.stands out)

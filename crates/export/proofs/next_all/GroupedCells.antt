-- The loop over a grouped cell has the numbers of its takes: for `grouped_cell`. Assumes nothing.
use mathlib.Core.Path.{◌≡◌, refl, sym}
use mathlib.Core.Bool.{true, false, cond, ◌&&◌}
use mathlib.Core.List.{List}
use Prim.Native.Nat.{ℕ, ◌+◌, ◌-◌, ◌<◌}
use native.Mathlib.Omega.{arith}
use lib.Dec.{eqb}
use lib.ListN.{length, get_or}
use borrow.Author.Tests.{ne_eqb}
use Rattle.word.specs.declared.format_flags.Format.{Format}
use Rattle.word.specs.Digit.{is_digit}
use Rattle.reader.specs.declared.state.Reader.{Reader}
use Rattle.reader.specs.declared.passing.Syntax.{Syntax}
use Rattle.reader.specs.Reading.{reading_with, has_any_flag, passed_at}
use Rattle.reader.specs.State.{fresh_of, is_counted}
use Rattle.reader.specs.Code.TakeSums.{sums_outcome}
use Rattle.reader.specs.Calls.{refusal_with, next_all_of}
use Rattle.reader.proofs.passing.Places.{no_separator, run_end}
use Rattle.reader.proofs.passing.Landings.{stays_on_other}
use Rattle.reader.proofs.state.Refusals.{skip_admits}
use Rattle.reader.proofs.state.Updates.{fresh_count}
use Rattle.reader.proofs.skip.TakeLoop.{Running, running_starts, running_on, running_out}
use Rattle.export.specs.Code.GroupedCell.{Between}
use Rattle.export.proofs.DigitBehind.{other_behind, lands_behind, lands_between}
use Rattle.export.proofs.FreshCells.{fresh_clear}

-- The loop's numbers, for every such reader.
module _ (separator radix : ℕ) (s : List ℕ) (x : Syntax) (f : Format) (r : Reader) (b : Between x separator radix r) where
  clear : refusal_with x.flags s (fresh_of f) r ≡ 0
  clear = (skip_admits x.flags s (fresh_of f) r (fresh_clear x s f r b.internal b.counted)).1

  counts : (c : ℕ) → ((has_any_flag x.flags && is_counted r) && is_digit c x.radix) ≡ is_digit c radix
  counts c = rw (b.internal, b.counted, b.own_radix) refl

  pub grouped_starts : Running (reading_with x) s r (fresh_of f) 0 0 0
  unfolding reading_with
  grouped_starts = rw (sym (fresh_count f r)) at (running_starts (reading_with x) s r (fresh_of f) clear)

  module _ (at count passed : ℕ) (here : Running (reading_with x) s r (fresh_of f) at count passed) where
    pub grouped_on : at < length s → (get_or s at 0 ≡ separator → ⊥)
        → Running (reading_with x) s r (fresh_of f) (at + 1) (cond (is_digit (get_or s at 0) radix) (count + 1) count) passed
    unfolding reading_with
    grouped_on inside differ =
        let stays = stays_on_other x s (eqb count 0) at inside (no_separator x.separator _ (rw b.own_separator differ)) in
        let none_passed : passed + (at - at) ≡ passed = omega arith in
        rw (none_passed, counts (get_or s at 0)) at (running_on (reading_with x) s r (fresh_of f) clear at count passed here at stays inside)

    -- over separators to a digit behind them
    over : (n : ℕ) → n ≡ at + passed_at (reading_with x) s false at → n < length s → is_digit (get_or s n 0) radix ≡ true → (count ≡ 0 → ⊥)
        → Running (reading_with x) s r (fresh_of f) (n + 1) (count + 1) (passed + (n - at))
    unfolding reading_with
    over n lands more digit some-counted =
        rw (counts (get_or s n 0), digit) at
        (running_on (reading_with x) s r (fresh_of f) clear at count passed here n (rw (ne_eqb count 0 some-counted) lands) more)

    pub grouped_over : at < length s → get_or s at 0 ≡ separator → at + 1 < length s → (get_or s (at + 1) 0 ≡ separator → ⊥)
        → is_digit (get_or s (at + 1) 0) radix ≡ true → (count ≡ 0 → ⊥)
        → Running (reading_with x) s r (fresh_of f) (at + 1 + 1) (count + 1) (passed + 1)
    grouped_over inside equal more differ digit some-counted =
        let own = b.own_separator in
        let lands = lands_between x s at inside (rw own b.positive) (rw own equal) more (rw own differ) (rw b.own_radix digit) b.internal in
        let one : passed + (at + 1 - at) ≡ passed + 1 = omega arith in
        rw one at (over (at + 1) lands more digit some-counted)

    -- the whole run, where it is passed at once
    pub spaced_over : x.flags.consecutive ≡ true → at < length s → get_or s at 0 ≡ separator
        → (n : ℕ) → n ≡ run_end separator s at → n < length s → is_digit (get_or s n 0) radix ≡ true → (count ≡ 0 → ⊥)
        → Running (reading_with x) s r (fresh_of f) (n + 1) (count + 1) (passed + (n - at))
    spaced_over together inside equal n ends more digit some-counted =
        let own = b.own_separator in
        let lands = lands_behind x s at inside (rw own b.positive) (rw own equal) n (rw (together, own) ends) more (rw own (other_behind separator s at n b.positive ends more)) (rw b.own_radix digit) b.internal in
        over n lands more digit some-counted

    pub grouped_out : at ≡ length s
        → sums_outcome (fresh_of f) r (record { at = length s; count = count; passed = passed }) ≡ next_all_of (reading_with x) s (fresh_of f) r
    unfolding reading_with next_all_of
    grouped_out same = rw same at (running_out (reading_with x) s r (fresh_of f) clear at count passed here (omega (arith, same)))

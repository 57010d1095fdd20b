-- `reader::skip::take_run` meets its contract: at each turn its definition goes on from the loop's numbers (SumsLoop), and each turn
-- moves the place on. Assumes nothing.
use Rattle.std.proofs.Common.{◌≡◌, ◌+◌, ◌-◌, eqb, arith, eqb-true}
use Rattle.std.proofs.lemmas.Bool.{and_parts}
use Rattle.reader.specs.Reading.{reading_with}
use Rattle.reader.proofs.passing.Places.{no_separator}
use Rattle.reader.proofs.passing.Landings.{stays_on_other}
use Rattle.reader.proofs.skip.SumsLoop.{summing_starts, summing_on, summing_over, summing_out}
use Rattle.reader.proofs.skip.RunsTaken.{summing_taken}
use Rattle.reader.proofs.skip.take_run.Goals as goal

pub loop-at-init : goal.loop-at-init
loop-at-init c =
    let a = c.args in
    summing_starts (reading_with a.syntax) a.s.now a.counts a.start a.counted c.requires.0 c.requires.1

pub bounds-s-at : goal.bounds-s-at
bounds-s-at c = omega arith

pub count_past-count-requires : goal.count_past-count-requires
count_past-count-requires c = omega (arith, c.loop-at.invariant.few)

pub overflow_add-at : goal.overflow_add-at
overflow_add-at c = omega arith

pub loop-at-smaller-then-b-separator : goal.loop-at-smaller-then-b-separator
loop-at-smaller-then-b-separator c = omega arith

pub loop-at-preserved-then-b-separator : goal.loop-at-preserved-then-b-separator
unfolding reading_with
loop-at-preserved-then-b-separator c =
    let a = c.args in
    let inside = c.loop-at-test.true in
    let stays = stays_on_other a.syntax a.s.now (eqb c.loop-at.count 0) c.loop-at.at inside (no_separator a.syntax.separator _ c.if-b-separator.true) in
    let none_passed : c.loop-at.passed + (c.loop-at.at - c.loop-at.at) ≡ c.loop-at.passed = omega arith in
    rw c.count_past-count.ensures
    (rw none_passed at (summing_on (reading_with a.syntax) a.s.now a.counts a.start a.counted c.loop-at.at c.loop-at.count c.loop-at.passed c.loop-at.invariant c.loop-at.at stays inside))

pub separator_landing-place-requires : goal.separator_landing-place-requires
separator_landing-place-requires c =
    (c.later_rule-later.ensures, c.loop-at-test.true, c.if-b-separator.false)

pub overflow_sub-over : goal.overflow_sub-over
overflow_sub-over c = omega (arith, c.separator_landing-place.ensures.0)

pub overflow_add-total : goal.overflow_add-total
overflow_add-total c =
    let p = c.separator_landing-place in
    omega (arith, c.loop-at.invariant.started, p.ensures.0, p.ensures.1)

pub returns-then-s-place : goal.returns-then-s-place
unfolding reading_with
returns-then-s-place c =
    let a = c.args in
    let p = c.separator_landing-place in
    let here = c.loop-at.invariant in record {
      sums = summing_over (reading_with a.syntax) a.s.now a.counts a.start a.counted c.loop-at.at c.loop-at.count c.loop-at.passed here p.result p.ensures.0 c.if-s-place.true;
      fits = (omega (arith, here.started, p.ensures.0), p.ensures.1, omega (arith, here.few, p.ensures.0));
    }

pub bounds-s-place : goal.bounds-s-place
bounds-s-place c = omega arith

pub count_past-more-requires : goal.count_past-more-requires
count_past-more-requires c = omega (arith, c.loop-at.invariant.few)

pub past_taken-at-requires : goal.past_taken-at-requires
past_taken-at-requires c = (
  c.if-s-place.false,
  λ e.
      let none = eqb-true (c.separator_landing-place.result - c.loop-at.at) 0 (and_parts (eqb (c.separator_landing-place.result - c.loop-at.at) 0) _ e).0 in
      let stays : c.separator_landing-place.result ≡ c.loop-at.at = omega (arith, c.separator_landing-place.ensures.0, none) in
      rw stays c.if-b-separator.false,
)

pub overflow_sub-at : goal.overflow_sub-at
overflow_sub-at c = omega (arith, c.past_taken-at.ensures.1)

pub count_behind-count-requires : goal.count_behind-count-requires
count_behind-count-requires c =
    omega (arith, c.past_taken-at.ensures.1, c.past_taken-at.ensures.2, c.loop-at.invariant.few, c.separator_landing-place.ensures.0)

pub overflow_add-passed : goal.overflow_add-passed
overflow_add-passed c =
    omega (arith, c.loop-at.invariant.started, c.separator_landing-place.ensures.0, c.separator_landing-place.ensures.1)

pub loop-at-smaller : goal.loop-at-smaller
loop-at-smaller c = omega (arith, c.separator_landing-place.ensures.0, c.past_taken-at.ensures.1)

pub loop-at-preserved : goal.loop-at-preserved
unfolding reading_with
loop-at-preserved c =
    let a = c.args in
    rw c.count_behind-count.ensures
    (summing_taken (reading_with a.syntax) a.s.now a.counts a.start a.counted c.loop-at.at c.loop-at.count c.loop-at.passed c.separator_landing-place.result _ c.loop-at.invariant c.if-b-separator.false c.separator_landing-place.ensures.0 c.if-s-place.false c.count_past-more.ensures _ c.past_taken-at.ensures.0)

pub returns : goal.returns
returns c =
    let a = c.args in
    let here = c.loop-at.invariant in record {
      sums = summing_out (reading_with a.syntax) a.s.now a.counts a.start a.counted c.loop-at.at c.loop-at.count c.loop-at.passed here c.loop-at-test.false;
      fits = (here.started, here.inside, here.few);
    }

-- `reader::iterator::take_separator_zeros` meets its contract: the loop's numbers are those of a list of reads of `0` (ZeroLoop), also
-- where it reads a refused run at once (ZeroRuns), and each turn moves the place on. Assumes nothing.
use Rattle.std.proofs.Common.{sym, ◌∙◌, arith, eqb-true}
use Rattle.reader.specs.Reading.{reading_with}
use Rattle.reader.proofs.iterator.ZeroLoop.{zero_there, skipping_starts, skipping_sums, skipping_over}
use Rattle.reader.proofs.iterator.ZeroRuns.{skipping_taken}
use Rattle.reader.proofs.skip.LoopState.{standing_counts}
use Rattle.reader.proofs.iterator.take_separator_zeros.Goals as goal

pub loop-syntax-init : goal.loop-syntax-init
unfolding reading_with
loop-syntax-init c =
    let a = c.args in
    rw c.count-counted.ensures (skipping_starts (reading_with a.syntax) a.s.now a.reader a.state c.requires.0)

pub landing-place-requires : goal.landing-place-requires
landing-place-requires c = omega (arith, c.loop-syntax.invariant.stands.inside)

pub overflow_sub-over : goal.overflow_sub-over
overflow_sub-over c = omega (arith, c.landing-place.ensures.0)

pub overflow_add-passed : goal.overflow_add-passed
overflow_add-passed c =
    omega (arith, c.landing-place.ensures.0, c.landing-place.ensures.1, skipping_sums _ _ _ _ _ _ _ _ c.loop-syntax.invariant)

pub past_taken-at-requires : goal.past_taken-at-requires
past_taken-at-requires c =
    let there = zero_there c.args.s.now c.landing-place.result (sym c.is_zero_at.ensures ∙ c.if-not-is_zero_at.false) in
    (there.0, λ e. eqb-true _ 48 there.1 ∙ sym c.requires.1)

pub overflow_sub-more : goal.overflow_sub-more
overflow_sub-more c = omega (arith, c.past_taken-at.ensures.1)

pub overflow_add-count : goal.overflow_add-count
overflow_add-count c =
    let counts = standing_counts _ _ _ _ _ c.loop-syntax.invariant.stands in
    omega (arith, c.past_taken-at.ensures.1, c.past_taken-at.ensures.2, c.landing-place.ensures.0, counts)

pub overflow_add-taken : goal.overflow_add-taken
overflow_add-taken c =
    let sums = skipping_sums _ _ _ _ _ _ _ _ c.loop-syntax.invariant in
    omega (arith, c.past_taken-at.ensures.1, c.past_taken-at.ensures.2, c.landing-place.ensures.0, sums)

pub loop-syntax-smaller : goal.loop-syntax-smaller
loop-syntax-smaller c =
    let s = c.args.s.now in
    let there = zero_there s c.landing-place.result (sym c.is_zero_at.ensures ∙ c.if-not-is_zero_at.false) in
    omega (arith, c.past_taken-at.ensures.1, c.landing-place.ensures.0, there.0)

pub loop-syntax-preserved : goal.loop-syntax-preserved
unfolding reading_with
loop-syntax-preserved c =
    skipping_taken _ _ _ _ c.requires.0 c.requires.1 _ _ _ _ c.landing-place.result c.loop-syntax.invariant
    c.landing-place.ensures.0 (sym c.is_zero_at.ensures ∙ c.if-not-is_zero_at.false) _ c.past_taken-at.ensures.0

pub returns : goal.returns
unfolding reading_with
returns c =
    rw (c.new.ensures, c.with_count-end.ensures, c.moved-stopped.ensures)
    (skipping_over _ _ _ _ c.requires.0 _ _ _ _ c.loop-syntax.invariant
    c.landing-place.result c.landing-place.ensures.0 (sym c.is_zero_at.ensures ∙ c.if-not-is_zero_at.true))

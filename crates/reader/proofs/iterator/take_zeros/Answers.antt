-- `reader::iterator::take_zeros` meets its contract: the loop's numbers are those of a list of reads of `0` (ZeroLoop), and
-- each turn moves the place on. Assumes nothing.
use Rattle.std.proofs.Common.{◌<◌, eqb, length, sym, ◌∙◌, arith}
use Rattle.reader.specs.Reading.{reading_with}
use Rattle.reader.proofs.iterator.ZeroLoop.{PlainZero, plain_zero, skipping_starts, skipping_sums, skipping_room, skipping_on, skipping_by_one, skipping_over}
use Rattle.reader.proofs.iterator.take_zeros.Goals as goal
use Rattle.reader.proofs.iterator.take_zeros.Goals.{Then-is_zero_at, Else-not-is_zero_at}

pub loop-at-init : goal.loop-at-init
unfolding reading_with
loop-at-init c =
    let a = c.args in
    rw c.count-count.ensures (skipping_starts (reading_with a.syntax) a.s.now a.reader a.state c.requires.0)

-- at a zero there is room for one more, and nothing is passed
plain : (c : Then-is_zero_at) → PlainZero c.args.syntax c.args.s.now c.loop-at.at
plain c = plain_zero _ _ _ c.requires.1 (sym c.is_zero_at.ensures ∙ c.if-is_zero_at.true)

room : (c : Then-is_zero_at) → (c.loop-at.at < length c.args.s.now) × (c.loop-at.count < length c.args.s.now) × (c.loop-at.taken < length c.args.s.now)
room c = skipping_room _ _ _ _ _ _ _ _ c.loop-at.invariant c.loop-at.at (omega arith) (plain c).zero

pub overflow_add-at : goal.overflow_add-at
overflow_add-at c = omega (arith, room (goal.at.overflow_add-at c).Then-is_zero_at)

pub overflow_add-count : goal.overflow_add-count
overflow_add-count c = omega (arith, room (goal.at.overflow_add-count c).Then-is_zero_at)

pub overflow_add-taken : goal.overflow_add-taken
overflow_add-taken c = omega (arith, room (goal.at.overflow_add-taken c).Then-is_zero_at)

pub loop-at-smaller-then-is_zero_at : goal.loop-at-smaller-then-is_zero_at
loop-at-smaller-then-is_zero_at c = omega (arith, room (goal.at.loop-at-smaller-then-is_zero_at c).Then-is_zero_at)

pub loop-at-preserved-then-is_zero_at : goal.loop-at-preserved-then-is_zero_at
unfolding reading_with
loop-at-preserved-then-is_zero_at c =
    let zero = plain (goal.at.loop-at-preserved-then-is_zero_at c).Then-is_zero_at in
    skipping_by_one _ _ _ _ c.requires.0 _ _ _ _ c.loop-at.invariant (zero.stays (eqb c.loop-at.count 0)) zero.zero

pub place_at-place-requires : goal.place_at-place-requires
place_at-place-requires c = omega (arith, c.loop-at.invariant.stands.inside)

pub overflow_sub-over : goal.overflow_sub-over
overflow_sub-over c = omega (arith, c.place_at-place.ensures.0)

pub overflow_add-passed : goal.overflow_add-passed
overflow_add-passed c =
    omega (arith, c.place_at-place.ensures.0, c.place_at-place.ensures.1, skipping_sums _ _ _ _ _ _ _ _ c.loop-at.invariant)

-- and so there is at a zero behind what is passed
room_behind : (c : Else-not-is_zero_at) → (c.place_at-place.result < length c.args.s.now) × (c.loop-at.count < length c.args.s.now) × (c.loop-at.taken < length c.args.s.now)
room_behind c =
    skipping_room _ _ _ _ _ _ _ _ c.loop-at.invariant c.place_at-place.result (omega (arith, c.place_at-place.ensures.0))
    (sym c.is_zero_at-in-loop-at.ensures ∙ c.if-not-is_zero_at.false)

pub overflow_add-at-in-loop-at : goal.overflow_add-at-in-loop-at
overflow_add-at-in-loop-at c = omega (arith, room_behind (goal.at.overflow_add-at-in-loop-at c).Else-not-is_zero_at)

pub overflow_add-count-in-loop-at : goal.overflow_add-count-in-loop-at
overflow_add-count-in-loop-at c = omega (arith, room_behind (goal.at.overflow_add-count-in-loop-at c).Else-not-is_zero_at)

pub overflow_add-taken-in-loop-at : goal.overflow_add-taken-in-loop-at
overflow_add-taken-in-loop-at c = omega (arith, room_behind (goal.at.overflow_add-taken-in-loop-at c).Else-not-is_zero_at)

pub loop-at-smaller : goal.loop-at-smaller
loop-at-smaller c = omega (arith, c.place_at-place.ensures.0, room_behind (goal.at.loop-at-smaller c).Else-not-is_zero_at)

pub loop-at-preserved : goal.loop-at-preserved
unfolding reading_with
loop-at-preserved c =
    skipping_on _ _ _ _ c.requires.0 _ _ _ _ c.loop-at.invariant c.place_at-place.result c.place_at-place.ensures.0
    (sym c.is_zero_at-in-loop-at.ensures ∙ c.if-not-is_zero_at.false)

pub returns : goal.returns
unfolding reading_with
returns c =
    rw (c.new.ensures, c.with_count-end.ensures, c.moved.ensures)
    (skipping_over _ _ _ _ c.requires.0 _ _ _ _ c.loop-at.invariant c.place_at-place.result c.place_at-place.ensures.0
    (sym c.is_zero_at-in-loop-at.ensures ∙ c.if-not-is_zero_at.true))

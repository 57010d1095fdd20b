-- `reader::passing::previous_other` meets its contract. The measure is the place after the index. Assumes nothing.
use Rattle.std.proofs.Common.{arith}
use Rattle.reader.proofs.passing.Places.{search_starts, search_ends, search_finds, search_goes_on}
use Rattle.reader.proofs.passing.previous_other.Goals as goal

pub loop-i-init : goal.loop-i-init
loop-i-init c = search_starts _ _ _ _ (omega arith) (omega arith) (omega arith)

pub returns-then-s-i : goal.returns-then-s-i
returns-then-s-i c =
    rw (← c.get-byte.ensures.value) (search_finds _ _ _ _ (omega arith) c.loop-i.invariant (omega arith) c.if-s-i.true)

pub loop-i-smaller : goal.loop-i-smaller
loop-i-smaller c = omega arith

pub loop-i-preserved : goal.loop-i-preserved
loop-i-preserved c =
    let here = c.loop-i.invariant in
    search_goes_on _ _ _ _ (omega arith) here _ (omega arith) (omega arith) c.if-s-i.false c.index_before-i-in-loop-i.ensures

pub returns : goal.returns
returns c =
    rw (← c.get-byte.ensures.value) (search_ends _ _ _ _ (omega arith) c.loop-i.invariant (omega arith))

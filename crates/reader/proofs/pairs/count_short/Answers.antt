-- `reader::pairs::count_short` meets its contract. The invariant: what is counted and the pairs from the byte before this on are those of
-- the slice, and fewer than i are counted. The measure is what is left of the slice. Assumes nothing.
use Rattle.std.proofs.Common.{◌≡◌, ◌∙◌, cond, arith, rules}
use Rattle.reader.proofs.pairs.Counts.{at_most_one, one_or_none, pair_turn, pairs_end}
use Rattle.reader.proofs.pairs.count_short.Goals as goal

pub loop-i-preserved : goal.loop-i-preserved
loop-i-preserved c =
    let a = c.args in
    let inside = c.loop-i-test.true in
    let turn = pair_turn a.pairs a.s.now c.loop-i.i c.loop-i.count c.loop-i.invariant.0 c.loop-i.invariant.3 inside in
    let one : c.from-count.result ≡ cond c.matches.result 1 0 = c.from-count.ensures ∙ one_or_none c.matches.result in
    let below = at_most_one c.matches.result in
    (search rules, omega (arith, below, one), search rules, rw (one, c.matches.ensures) (omega (arith, turn)))

pub returns : goal.returns
returns c =
    let a = c.args in
    (pairs_end a.pairs a.s.now c.loop-i.i c.loop-i.count c.loop-i.invariant.0 c.loop-i.invariant.3 c.loop-i-test.false, search rules)

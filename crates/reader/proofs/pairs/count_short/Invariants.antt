use Rattle.std.proofs.Common.{◌≡◌, ◌+◌, ◌-◌, ◌<◌, ◌≤◌, max, length, drop}
use Rattle.reader.specs.Code.Pairs.{pairs_of}
use Rattle.reader.proofs.pairs.count_short.Given as goal

abbrev pub invariant-loop-i : goal.invariant-loop-i
invariant-loop-i l =
    (1 ≤ l.i) × (l.count < l.i) × (l.i ≤ max 1 (length l.s)) × (l.count + pairs_of l.pairs (drop (l.i - 1) l.s) ≡ pairs_of l.pairs l.s)

abbrev pub decreases-loop-i : goal.decreases-loop-i
decreases-loop-i l = length l.s - l.i

use Rattle.std.proofs.Common.{◌≡◌, ◌+◌, ◌≤◌, length}
use Rattle.reader.specs.Code.Pairs.{pairs_of}
use Rattle.reader.proofs.pairs.count_pairs.Given as goal

abbrev pub invariant-loop-rest : goal.invariant-loop-rest
invariant-loop-rest l =
    (l.count + length l.rest ≤ length l.s) × (l.count + pairs_of l.pairs l.rest ≡ pairs_of l.pairs l.s)

abbrev pub decreases-loop-rest : goal.decreases-loop-rest
decreases-loop-rest l = length l.rest

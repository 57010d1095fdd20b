use Rattle.std.proofs.Common.{◌-◌, length}
use Rattle.reader.specs.Reading.{reading_with}
use Rattle.reader.proofs.iterator.ZeroLoop.{Skipping}
use Rattle.reader.proofs.iterator.take_zeros.Given as goal

abbrev pub invariant-loop-at : goal.invariant-loop-at
invariant-loop-at l =
    Skipping (reading_with l.syntax) l.s l.reader l.state l.at l.count l.taken l.passed

abbrev pub decreases-loop-at : goal.decreases-loop-at
decreases-loop-at l = length l.s - l.at

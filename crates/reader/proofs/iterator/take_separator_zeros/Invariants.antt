use Rattle.std.proofs.Common.{◌-◌, length}
use Rattle.reader.specs.Reading.{reading_with}
use Rattle.reader.proofs.iterator.ZeroLoop.{Skipping}
use Rattle.reader.proofs.iterator.take_separator_zeros.Given as goal

abbrev pub invariant-loop-syntax : goal.invariant-loop-syntax
invariant-loop-syntax l =
    Skipping (reading_with l.syntax) l.s l.reader l.state l.at l.count l.taken l.passed

abbrev pub decreases-loop-syntax : goal.decreases-loop-syntax
decreases-loop-syntax l = length l.s - l.at

use Rattle.std.proofs.Common.{◌-◌, length}
use Rattle.cells.proofs.digit_run.RunLoop.{Running}
use Rattle.cells.proofs.digit_run.take_digits.Given as goal

abbrev pub invariant-loop-c : goal.invariant-loop-c
invariant-loop-c l =
    Running l.syntax l.s l.reader l.state l.at l.count l.value l.taken l.passed l.refused

abbrev pub decreases-loop-c : goal.decreases-loop-c
decreases-loop-c l =
    length l.s - l.at

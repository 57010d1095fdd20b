use Rattle.std.proofs.Common.{◌-◌, length}
use Rattle.reader.specs.Reading.{reading_with}
use Rattle.reader.proofs.skip.SumsLoop.{Summing}
use Rattle.reader.proofs.skip.take_run.Given as goal

abbrev pub invariant-loop-at : goal.invariant-loop-at
invariant-loop-at l =
    Summing (reading_with l.syntax) l.s l.counts l.start l.counted l.at l.count l.passed

abbrev pub decreases-loop-at : goal.decreases-loop-at
decreases-loop-at l = length l.s - l.at

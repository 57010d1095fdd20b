use Rattle.std.proofs.Common.{◌≤◌, ◌-◌, ◌≡◌, length, drop}
use Rattle.vectors.specs.Line.{with_fields, record_of}
use Rattle.vectors.proofs.record.parse.Given as goal

abbrev pub invariant-loop-at : goal.invariant-loop-at
invariant-loop-at l = (l.at ≤ length l.line) × (with_fields 0 l.parsed (drop l.at l.line) ≡ record_of l.line)

abbrev pub decreases-loop-at : goal.decreases-loop-at
decreases-loop-at l = length l.line - l.at

use Rattle.std.proofs.Common.{length}
use Rattle.reader.proofs.column.Sums.{Summed}
use Rattle.reader.proofs.column.column_totals.Given as goal

abbrev pub invariant-loop-told : goal.invariant-loop-told
invariant-loop-told l = Summed l.syntax l.format l.reader l.s l.ends l.sums l.left l.at

abbrev pub decreases-loop-told : goal.decreases-loop-told
decreases-loop-told l = length l.left

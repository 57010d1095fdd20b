use Rattle.reader.proofs.column.Stretches.{Walked}
use Rattle.reader.proofs.column.past_ordinary.Given as goal

abbrev pub invariant-loop-cell : goal.invariant-loop-cell
invariant-loop-cell l = Walked l.syntax l.s l.ends l.quick 0 l.start l.cell l.at

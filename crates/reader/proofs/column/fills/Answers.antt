-- `reader::column::fills` meets its contract: the last end is the one at the last index. Assumes nothing.
use Rattle.reader.proofs.column.Cells.{fills_told}
use Rattle.reader.proofs.column.fills.Goals as goal

pub returns-in-Some : goal.returns-in-Some
returns-in-Some c = let last = c.in-Some.ensures.item.3 in rw (last.1 0) (fills_told c.args.s.now c.args.ends.now last.0)

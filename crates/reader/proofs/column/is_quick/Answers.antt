-- `reader::column::is_quick` meets its contract: its tests are those of the definition, one after the other. Assumes nothing.
use Rattle.std.proofs.Common.{sym}
use Rattle.reader.specs.Code.OrdinaryCells.{is_quick}
use Rattle.reader.proofs.column.is_quick.Goals as goal

pub returns-then-not-serves : goal.returns-then-not-serves
unfolding is_quick
returns-then-not-serves c = let v = c.serves in rw (sym v.ensures, c.if-not-serves.true)

pub returns-then-not-syntax : goal.returns-then-not-syntax
unfolding is_quick
returns-then-not-syntax c =
    let v = c.serves in
    rw (sym v.ensures, c.if-not-serves.false, c.if-not-syntax.true)

pub returns-then-apart : goal.returns-then-apart
unfolding is_quick
returns-then-apart c =
    let v = c.serves in
    let a = c.args in
    rw (sym v.ensures, c.if-not-serves.false, c.if-not-syntax.false, c.if-apart.true)

pub returns : goal.returns
unfolding is_quick
returns c =
    let v = c.serves in
    let a = c.args in
    rw (c.count_pairs.ensures.0, c.double_pairs.ensures, sym v.ensures, c.if-not-serves.false, c.if-not-syntax.false, c.if-apart.false)

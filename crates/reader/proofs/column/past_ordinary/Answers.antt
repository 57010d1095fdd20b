-- `reader::column::past_ordinary` meets its contract: a walk over ordinary cells (proofs/column/Stretches.antt). Assumes nothing.
use Rattle.std.proofs.Common.{◌≡◌, length, arith}
use Rattle.reader.proofs.column.Stretches.{walk_starts, walk_goes_on, walk_ends}
use Rattle.reader.proofs.column.past_ordinary.Goals as goal

pub returns-then-not-quick : goal.returns-then-not-quick
returns-then-not-quick c =
    let a = c.args in
    walk_ends a.syntax a.s.now a.ends.now a.quick 0 a.start a.reader c.requires.0 0 a.start (walk_starts a.syntax a.s.now a.ends.now a.quick 0 a.start (omega arith) c.requires.1)

pub loop-cell-init : goal.loop-cell-init
loop-cell-init c =
    let a = c.args in
    walk_starts a.syntax a.s.now a.ends.now a.quick 0 a.start (omega arith) c.requires.1

pub returns-then-not-is_ordinary : goal.returns-then-not-is_ordinary
returns-then-not-is_ordinary c =
    let a = c.args in
    walk_ends a.syntax a.s.now a.ends.now a.quick 0 a.start a.reader c.requires.0 c.loop-cell.cell c.loop-cell.at c.loop-cell.invariant

pub loop-cell-preserved : goal.loop-cell-preserved
loop-cell-preserved c =
    let a = c.args in
    walk_goes_on a.syntax a.s.now a.ends.now a.quick 0 a.start c.loop-cell.cell c.loop-cell.at c.bound_of-end.result c.loop-cell.invariant c.loop-cell-test.true c.bound_of-end.ensures
    (c.is_ordinary.ensures c.if-not-is_ordinary.false) c.if-not-quick.false

pub returns : goal.returns
returns c =
    let a = c.args in
    let all : c.loop-cell.cell ≡ length a.ends.now = omega (arith, c.loop-cell.auto.cell-end) in
    rw all at (walk_ends a.syntax a.s.now a.ends.now a.quick 0 a.start a.reader c.requires.0 c.loop-cell.cell c.loop-cell.at c.loop-cell.invariant)

-- `reader::column::column_totals` meets its contract: the sums go on by a stretch of ordinary cells or by one cell (proofs/column/Stretches.antt).
-- Assumes nothing.
use Rattle.std.proofs.Common.{sym, ◌∙◌, arith}
use Rattle.std.proofs.lemmas.List.{take_rest}
use Rattle.reader.proofs.column.Cells.{quick_told}
use Rattle.reader.proofs.column.Sums.{sums_stretch, sums_cell, sums_end}
use Rattle.reader.proofs.column.Stretches.{refused_alike}
use Rattle.reader.proofs.column.column_totals.Goals as goal

pub past_ordinary-to-requires : goal.past_ordinary-to-requires
past_ordinary-to-requires c =
    let a = c.args in
    (λ q. quick_told a.syntax a.reader a.s.now a.filled (sym c.is_quick-quick.ensures ∙ q), c.loop-told.invariant.inside)

pub add_totals-sums-requires : goal.add_totals-sums-requires
add_totals-sums-requires c =
    let a = c.args in
    let on = sums_stretch a.syntax a.format a.reader a.s.now a.ends.now c.loop-told.sums c.loop-told.left.now c.loop-told.at c.loop-told.invariant c.past_ordinary-to.result c.past_ordinary-to.ensures c.requires in
    rw c.stretch_totals.ensures (omega (arith, on.size, on.inside), omega (arith, on.size, on.inside), omega (arith, on.digits, on.inside))

pub loop-told-preserved-then-to-ne0 : goal.loop-told-preserved-then-to-ne0
loop-told-preserved-then-to-ne0 c =
    let a = c.args in
    rw (c.add_totals-sums.ensures, c.stretch_totals.ensures)
    (rw (take_rest c.loop-told.left.now c.past_ordinary-to.result.cell)
    (sums_stretch a.syntax a.format a.reader a.s.now a.ends.now c.loop-told.sums c.loop-told.left.now c.loop-told.at c.loop-told.invariant c.past_ordinary-to.result c.past_ordinary-to.ensures c.requires))

pub cell_totals-one-requires : goal.cell_totals-one-requires
cell_totals-one-requires c =
    let a = c.args in
    refused_alike a.syntax a.s.now _ a.format a.reader c.requires

pub add_totals-sums-requires-in-Some : goal.add_totals-sums-requires-in-Some
add_totals-sums-requires-in-Some c =
    let a = c.args in
    let parts = rw c.in-Some.is at c.split_first.ensures.cases in
    let on = sums_cell a.syntax a.format a.reader a.s.now a.ends.now c.loop-told.sums c.loop-told.left.now c.loop-told.at c.loop-told.invariant _ _ parts.0 c.bound_of-end.result c.cell_totals-one.result (omega (arith, c.bound_of-end.ensures, c.in-Some.told-is)) c.cell_totals-one.ensures.totals c.cell_totals-one.ensures.fits.0 c.cell_totals-one.ensures.fits.1 in
    (omega (arith, on.size, on.inside), omega (arith, on.size, on.inside), omega (arith, on.digits, on.inside))

pub loop-told-preserved : goal.loop-told-preserved
loop-told-preserved c =
    let a = c.args in
    let parts = rw c.in-Some.is at c.split_first.ensures.cases in
    rw c.add_totals-sums-in-Some.ensures
    (sums_cell a.syntax a.format a.reader a.s.now a.ends.now c.loop-told.sums c.loop-told.left.now c.loop-told.at c.loop-told.invariant _ _ parts.0 c.bound_of-end.result c.cell_totals-one.result (omega (arith, c.bound_of-end.ensures, c.in-Some.told-is)) c.cell_totals-one.ensures.totals c.cell_totals-one.ensures.fits.0 c.cell_totals-one.ensures.fits.1)

pub returns : goal.returns
returns c =
    let a = c.args in
    sums_end a.syntax a.format a.reader a.s.now a.ends.now c.loop-told.sums c.loop-told.left.now c.loop-told.at c.loop-told.invariant (rw c.in_default.is at c.split_first.ensures.cases)

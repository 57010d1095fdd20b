-- `reader::column::cell_totals` meets its contract: what the cell's run from a fresh state tells, and of its count only what the reader
-- counts. Assumes nothing.
use Rattle.std.proofs.Common.{sym, arith}
use Rattle.reader.specs.Reading.{reading_with}
use Rattle.reader.specs.State.{fresh_of}
use Rattle.reader.proofs.skip.TakeLoop.{sums_are_takes}
use Rattle.reader.proofs.state.Updates.{fresh_count, counted_at_most}
use Rattle.reader.proofs.column.Cells.{cell_told}
use Rattle.reader.proofs.column.cell_totals.Goals as goal

pub returns : goal.returns
unfolding reading_with
returns c =
    let a = c.args in
    let fits = c.take_run-run.ensures.fits in
    let digits = counted_at_most a.reader c.take_run-run.result.count in
    let takes = sums_are_takes (reading_with a.syntax) a.s.now a.reader (fresh_of a.format) c.requires in record {
      totals = cell_told (reading_with a.syntax) a.s.now a.format a.reader c.take_run-run.result c.own_count.result
          (rw (c.take_run-run.ensures.sums, c.counts_digits-counts.ensures) (rw (sym (fresh_count a.format a.reader)) at takes)) c.own_count.ensures;
      fits = (omega (arith, fits.0, fits.1), omega (arith, c.own_count.ensures, digits, fits.1, fits.2));
    }

-- `reader::skip::take_all` meets its contract: the state at the run's place and count. Assumes nothing.
use Rattle.std.proofs.Common.{arith}
use Rattle.reader.specs.Reading.{reading_with}
use Rattle.reader.proofs.state.Refusals.{within}
use Rattle.reader.proofs.state.Updates.{count_in_sum}
use Rattle.reader.proofs.skip.TakeLoop.{sums_are_takes}
use Rattle.reader.proofs.skip.take_all.Goals as goal

pub take_run-run-requires : goal.take_run-run-requires
take_run-run-requires c =
    let a = c.args in
    let w = within a.syntax.flags a.s.now a.state a.reader c.requires in
    (w.0, omega (arith, w.1, c.count.ensures, count_in_sum a.state a.reader))

pub returns : goal.returns
unfolding reading_with
returns c =
    let a = c.args in
    rw (c.new.ensures, c.with_count-end.ensures, c.moved.ensures, c.take_run-run.ensures.sums, c.count.ensures, c.counts_digits-counts.ensures)
    (sums_are_takes (reading_with a.syntax) a.s.now a.reader a.state c.requires)

-- `reader::passing::behind` meets its contract: behind a run stands the first byte that is no separator, and the run is passed up to
-- it. Assumes nothing.
use Rattle.std.proofs.Common.{suc, add-one, rules}
use Rattle.reader.proofs.passing.Places.{run_byte, run_over}
use Rattle.reader.proofs.passing.behind.Goals as goal

pub returns-then-separated : goal.returns-then-separated
returns-then-separated c =
    let a = c.args in
    let p = c.requires in (
      rw (c.if-separated.true, c.run_end.ensures.0, ← run_over a.separated.separator.value a.s.now a.at p.0 a.separated.separator.ok p.1, add-one) (run_byte a.separated.separator.value a.s.now (suc a.at)),
      rw c.if-separated.true c.run_end.ensures.0,
      c.run_end.ensures.1,
    )

pub returns : goal.returns
returns c = (rw (c.if-separated.false, add-one), rw c.if-separated.false, search rules)

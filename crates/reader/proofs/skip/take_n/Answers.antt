-- `reader::skip::take_n` meets its contract: refusals first, and then the block. Assumes nothing.
use Rattle.std.proofs.Common.{sym, ap, ◌∙◌}
use Rattle.reader.specs.declared.passing.Syntax.{Syntax}
use Rattle.reader.specs.Reading.{reading_with, reading_for}
use Rattle.reader.specs.Block.{block_from}
use Rattle.reader.proofs.state.Refusals.{block_within}
use Rattle.reader.proofs.skip.Blocks.{block_admitted, block_refused}
use Rattle.reader.proofs.skip.take_n.Goals as goal

pub block_from-requires : goal.block_from-requires
block_from-requires c =
    let a = c.args in
    block_within a.s.now a.state a.reader (sym c.in-Ok.ensures)

pub returns-in-Ok : goal.returns-in-Ok
unfolding reading_with
returns-in-Ok c =
    let a = c.args in
    c.block_from.ensures
    ∙ ap (λ (y : Syntax). block_from y.flags a.s.now a.state a.n) c.syntax_for.ensures
    ∙ block_admitted (reading_for a.state a.reader) a.s.now a.state a.reader a.n (sym c.in-Ok.ensures)

pub returns-in-Err : goal.returns-in-Err
returns-in-Err c =
    let a = c.args in
    rw c.refused.ensures
    (block_refused (reading_for a.state a.reader) a.s.now a.state a.reader a.n _ c.in-Err.ensures)

-- `reader::skip::next_all_in` meets its contract: refusals first, and then the takes. Assumes nothing.
use Rattle.std.proofs.Common.{sym}
use Rattle.reader.specs.Reading.{reading_with}
use Rattle.reader.specs.Calls.{next_all_of}
use Rattle.reader.proofs.skip.Takes.{refused_at_once}
use Rattle.reader.proofs.skip.next_all_in.Goals as goal

pub take_all-requires : goal.take_all-requires
take_all-requires c = sym c.in-Ok.ensures

pub returns-in-Err : goal.returns-in-Err
unfolding next_all_of reading_with
returns-in-Err c =
    let a = c.args in
    rw c.refused.ensures (refused_at_once (reading_with a.syntax) a.s.now a.state a.reader _ c.in-Err.ensures)

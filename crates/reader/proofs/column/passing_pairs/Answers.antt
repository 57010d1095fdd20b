-- `reader::column::passing_pairs` meets its contract: the rule of a reader that has counted, asked of each kind of byte behind.
-- Assumes nothing.
use Rattle.std.proofs.Common.{true, false}
use Rattle.reader.specs.Code.OrdinaryCells.{a_byte, nothing_before}
use Rattle.reader.proofs.column.passing_pairs.Goals as goal

pub returns : goal.returns
returns c =
    let rule = c.later_rule-later.ensures.holds nothing_before in
    rw (c.passes_before.ensures, c.passes_before-2.ensures, c.passes_before-3.ensures, rule (a_byte true false), rule (a_byte false true), rule (a_byte false false))

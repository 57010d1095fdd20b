-- `reader::rule::later_rule` meets its contract: in the cell of a reader that has counted, no byte before is a byte like any.
-- Assumes nothing.
use Rattle.std.proofs.Common.{false, ◌∙◌, zero-add}
use Rattle.reader.proofs.rule.CommonLaws.{absent, later_looks_behind}
use Rattle.reader.proofs.rule.later_rule.Goals as goal

pub returns : goal.returns
returns c =
    let cell = c.cell_of-cell.ensures.0 in
    let flags = c.args.flags in
    record { holds = λ p n. simp zero-add at (c.rule_word.ensures flags false absent n cell) ∙ later_looks_behind flags p n }

-- `reader::rule::names_of` meets its contract: the two masks have the cells that name a neighbour. Assumes nothing.
use Rattle.word.specs.Bits.{bit}
use Rattle.reader.specs.Rule.{names_of}
use Rattle.reader.proofs.rule.Table.{every, every_cell, are_names, names_hold}
use Rattle.reader.proofs.rule.names_of.Goals as goal

pub returns : goal.returns
unfolding every every_cell are_names names_of bit
returns c =
    let a = c.args in
    rw (c.bit_at.ensures, c.bit_at-2.ensures, c.cell_of-cell.ensures.0)
    (names_hold _ _ tt a.flags a.first)

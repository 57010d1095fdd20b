-- `word::digit::entry_of` meets its contract: the entry is eight bits of its row. Assumes nothing.
use Rattle.std.proofs.Common.{rules}
use Rattle.word.proofs.digit.Table.{row_told}
use Rattle.word.proofs.digit.entry_of.Goals as goal

pub returns : goal.returns
returns c =
    rw (c.bits_at.ensures, c.row_of.ensures, c.from-byte.ensures) (row_told c.args.c (search rules))

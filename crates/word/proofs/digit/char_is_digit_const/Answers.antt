-- `word::digit::char_is_digit_const` meets its contract: it tests the byte's entry. Assumes nothing.
use Rattle.word.proofs.digit.Table.{digit_told}
use Rattle.word.proofs.digit.char_is_digit_const.Goals as goal

pub returns : goal.returns
returns c =
    let a = c.args in
    rw (c.from.ensures, c.entry_of.ensures) (digit_told a.c a.radix)

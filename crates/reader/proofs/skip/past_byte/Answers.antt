-- `reader::skip::past_byte` meets its contract: only a digit of a reader with a flag is counted. Assumes nothing.
use Rattle.std.proofs.Common.{sym, ◌∙◌, arith}
use Rattle.reader.specs.State.{moved_to}
use Rattle.reader.specs.Reading.{reading_with}
use Rattle.reader.proofs.skip.past_byte.Goals as goal

pub counted-requires : goal.counted-requires
unfolding moved_to
counted-requires c =
    rw c.moved-next.ensures (omega (arith, c.requires.0, c.requires.1))

pub returns-then-has_any-char_is_digit_by_table : goal.returns-then-has_any-char_is_digit_by_table
unfolding reading_with
returns-then-has_any-char_is_digit_by_table c =
    rw (sym c.char_is_digit_by_table.ensures, sym c.has_any.ensures, c.if-has_any-char_is_digit_by_table.true)
    (c.counted.ensures ∙ rw c.moved-next.ensures)

pub returns : goal.returns
unfolding reading_with
returns c =
    rw (sym c.char_is_digit_by_table.ensures, sym c.has_any.ensures, c.if-has_any-char_is_digit_by_table.false)
    c.moved-next.ensures

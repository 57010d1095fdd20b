-- `reader::column::serves` meets its contract. Assumes nothing.
use Rattle.reader.proofs.column.serves.Goals as goal

pub returns : goal.returns
returns c = rw (c.counts_digits-counts.ensures, c.char_is_digit_by_table-digit.ensures)

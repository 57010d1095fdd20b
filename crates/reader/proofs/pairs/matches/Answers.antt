-- `reader::pairs::matches` meets its contract: its test by operations on Bools is that by cases. Assumes nothing.
use Rattle.reader.proofs.pairs.Counts.{kinds}
use Rattle.reader.proofs.pairs.matches.Goals as goal

pub returns : goal.returns
returns c = rw (kinds, c.char_is_digit_by_range-digit.ensures)

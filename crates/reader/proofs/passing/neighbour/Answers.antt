-- `reader::passing::neighbour` meets its contract. Assumes nothing.
use Rattle.reader.specs.Place.{is_separator}
use Rattle.reader.specs.Reading.{neighbour_of, reading_with}
use Rattle.reader.proofs.passing.neighbour.Goals as goal

pub returns : goal.returns
unfolding neighbour_of reading_with is_separator
returns c = rw c.char_is_digit_by_table.ensures

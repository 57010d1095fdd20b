-- `reader::skip::is_digit_separator` meets its contract. Assumes nothing.
use Rattle.reader.specs.Place.{is_separator}
use Rattle.reader.proofs.skip.is_digit_separator.Goals as goal

pub returns : goal.returns
unfolding is_separator
returns c = rw c.digit_separator-separator.ensures

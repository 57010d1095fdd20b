-- `reader::passing::syntax_of` meets its contract. Assumes nothing.
use Rattle.reader.specs.Reading.{syntax_of}
use Rattle.reader.proofs.passing.syntax_of.Goals as goal

pub returns : goal.returns
unfolding syntax_of
returns c = rw (c.flags_of-flags.ensures, c.digit_separator.ensures, c.mantissa_radix_byte.ensures)

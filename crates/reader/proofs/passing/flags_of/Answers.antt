-- `reader::passing::flags_of` meets its contract: by cases on the reader. Assumes nothing.
use Rattle.reader.specs.Reading.{flags_of}
use Rattle.reader.proofs.passing.flags_of.Goals as goal

pub returns-in-Integer : goal.returns-in-Integer
unfolding flags_of
returns-in-Integer c = rw (
  c.in-Integer.is,
  c.integer_internal_digit_separator.ensures,
  c.integer_leading_digit_separator.ensures,
  c.integer_trailing_digit_separator.ensures,
  c.integer_consecutive_digit_separator.ensures,
)

pub returns-in-Fraction : goal.returns-in-Fraction
unfolding flags_of
returns-in-Fraction c = rw (
  c.in-Fraction.is,
  c.fraction_internal_digit_separator.ensures,
  c.fraction_leading_digit_separator.ensures,
  c.fraction_trailing_digit_separator.ensures,
  c.fraction_consecutive_digit_separator.ensures,
)

pub returns-in-Exponent : goal.returns-in-Exponent
unfolding flags_of
returns-in-Exponent c = rw (
  c.in-Exponent.is,
  c.exponent_internal_digit_separator.ensures,
  c.exponent_leading_digit_separator.ensures,
  c.exponent_trailing_digit_separator.ensures,
  c.exponent_consecutive_digit_separator.ensures,
)

pub returns-in-Special : goal.returns-in-Special
unfolding flags_of
returns-in-Special c = rw (c.in-Special.is, c.special_digit_separator-special.ensures)

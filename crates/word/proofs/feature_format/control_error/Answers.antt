-- `word::feature_format::control_error` meets its contract, line by line. Assumes nothing.
use Rattle.word.specs.Check.{control_lines, valid_control}
use Rattle.word.proofs.Lines.{line_first}
use Rattle.word.proofs.feature_format.control_error.Goals as goal

pub returns : goal.returns
unfolding control_lines valid_control
returns c =
    rw (
      c.line-3.ensures,
      c.line-2.ensures,
      c.line.ensures,
      c.line-punctuation.ensures,
      c.is_valid_punctuation.ensures,
      c.is_valid_optional_control_radix-suffix.ensures,
      c.base_suffix.ensures,
      c.is_valid_optional_control_radix-prefix.ensures,
      c.base_prefix.ensures,
      c.is_valid_optional_control_radix-separator.ensures,
      c.digit_separator.ensures,
      c.larger_radix-radix.ensures,
      line_first 3,
      line_first 4,
      line_first 5,
      line_first 6,
    )

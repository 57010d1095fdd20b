-- `word::feature_format::flag_error` meets its contract, line by line. Assumes nothing.
use Rattle.word.specs.Check.{flag_lines}
use Rattle.word.proofs.Lines.{line_first}
use Rattle.word.proofs.feature_format.flag_error.Goals as goal

pub returns : goal.returns
unfolding flag_lines
returns c =
    rw (line_first 7, line_first 8, line_first 9, line_first 10, c.line-4.ensures, c.line-3.ensures, c.line-2.ensures, c.line.ensures, c.special_digit_separator.ensures, c.case_sensitive_special.ensures, c.no_special.ensures, c.required_exponent_sign.ensures, c.no_positive_exponent_sign.ensures, c.required_mantissa_sign.ensures, c.no_positive_mantissa_sign.ensures, c.is_valid_exponent_flags.ensures)

-- `word::not_feature_format::control_error` meets its contract, line by line. Assumes nothing.
use Rattle.word.specs.Check.{plain_control_lines}
use Rattle.word.proofs.Lines.{line_first}
use Rattle.word.proofs.not_feature_format.control_error.Goals as goal

pub returns : goal.returns
unfolding plain_control_lines
returns c =
    rw (line_first 3, line_first 4, line_first 5, c.line-3.ensures, c.line-2.ensures, c.line.ensures, c.base_suffix.ensures, c.base_prefix.ensures, c.digit_separator.ensures)

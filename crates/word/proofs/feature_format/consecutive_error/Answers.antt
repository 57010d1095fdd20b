-- `word::feature_format::consecutive_error` meets its contract, line by line. Assumes nothing.
use Rattle.word.specs.Check.{consecutive_lines}
use Rattle.word.proofs.Lines.{line_first}
use Rattle.word.proofs.feature_format.consecutive_error.Goals as goal

pub returns : goal.returns
unfolding consecutive_lines
returns c =
    rw (line_first 11, line_first 12, line_first 13, c.line-3.ensures, c.line-2.ensures, c.line.ensures, c.is_consecutive_alone-3.ensures, c.is_consecutive_alone-2.ensures, c.is_consecutive_alone.ensures)

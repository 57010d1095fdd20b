-- `word::format_flags::is_valid_punctuation` meets its contract. Assumes nothing.
use Rattle.word.specs.Check.{valid_punctuation}
use Rattle.word.proofs.format_flags.is_valid_punctuation.Goals as goal

pub returns : goal.returns
unfolding valid_punctuation
returns c = rw (c.digit_separator-separator.ensures, c.base_prefix-prefix.ensures, c.base_suffix-suffix.ensures)

-- `word::format_flags::is_valid_control` meets its contract. Assumes nothing.
use Rattle.word.specs.Check.{valid_control}
use Rattle.word.proofs.format_flags.is_valid_control.Goals as goal

pub returns : goal.returns
unfolding valid_control
returns c = rw (c.is_valid_optional_control_radix.ensures, c.larger_radix.ensures)

-- `word::format_flags::is_valid_optional_control_radix` meets its contract. Assumes nothing.
use Rattle.word.specs.Check.{valid_control_in}
use Rattle.word.proofs.format_flags.is_valid_optional_control_radix.Goals as goal

pub returns : goal.returns
unfolding valid_control_in
returns c = rw (c.char_is_digit_const.ensures, c.is_valid_ascii.ensures)

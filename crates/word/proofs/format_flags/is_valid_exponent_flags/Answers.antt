-- `word::format_flags::is_valid_exponent_flags` meets its contract. Assumes nothing.
use Rattle.word.specs.Check.{valid_exponent_flags}
use Rattle.word.proofs.format_flags.is_valid_exponent_flags.Goals as goal

pub returns : goal.returns
unfolding valid_exponent_flags
returns c = rw (c.flag_at.ensures, c.flag_at-2.ensures)

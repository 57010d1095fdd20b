-- `word::format_flags::exponent_radix` meets its contract: the field, or the mantissa radix where it is 0. Assumes nothing.
use Rattle.word.specs.Word.{radix_at}
use Rattle.word.proofs.format_flags.exponent_radix.Goals as goal

pub returns : goal.returns
unfolding radix_at
returns c = rw (c.radix_or_mantissa.ensures, c.byte_at.ensures)

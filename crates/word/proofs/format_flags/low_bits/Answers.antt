-- `word::format_flags::low_bits` meets its contract: the bits lie in the low half. Assumes nothing.
use Rattle.std.proofs.Common.{◌∙◌, rules}
use Rattle.word.proofs.format_flags.Halves.{low_half}
use Rattle.word.proofs.format_flags.low_bits.Goals as goal

pub returns : goal.returns
returns c = c.bits_at.ensures ∙ low_half c.args.format c.args.shift c.args.width (search rules) (search rules)

-- `word::format_flags::byte_at` meets its contract: the byte lies in the high half. Assumes nothing.
use Rattle.std.proofs.Common.{◌∙◌, rules}
use Rattle.word.proofs.format_flags.Halves.{high_half}
use Rattle.word.proofs.format_flags.byte_at.Goals as goal

pub returns : goal.returns
returns c = c.bits_at.ensures ∙ high_half c.args.format c.args.shift 8 (search rules) (search rules)

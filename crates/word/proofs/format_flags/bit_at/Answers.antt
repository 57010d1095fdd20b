-- `word::format_flags::bit_at` meets its contract. Assumes nothing.
use Rattle.std.proofs.Common.{sym, rules}
use Rattle.word.specs.Bits.{bit}
use Rattle.word.proofs.Masks.{no_bit_past}
use Rattle.word.proofs.format_flags.bit_at.Goals as goal

pub returns-then-position-lt64 : goal.returns-then-position-lt64
unfolding bit
returns-then-position-lt64 c = rw c.bits_at.ensures

pub returns : goal.returns
returns c = sym (no_bit_past c.args.half c.args.position (search rules) c.if-position-lt64.false)

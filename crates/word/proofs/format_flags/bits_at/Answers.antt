-- `word::format_flags::bits_at` meets its contract: a shift and a mask are a division and a remainder. Assumes nothing.
use Rattle.word.proofs.Masks.{one_shifted}
use Rattle.std.proofs.Common.{◌/◌, ◌^◌, pow_pos}
use lib.Bits.{and_mask}
use Rattle.word.proofs.format_flags.bits_at.Goals as goal

pub overflow_sub-mask : goal.overflow_sub-mask
overflow_sub-mask c = rw (one_shifted c.args.width c.requires.1) (pow_pos c.args.width)

pub returns : goal.returns
returns c = rw (one_shifted c.args.width c.requires.1) (and_mask (c.args.half / 2 ^ c.args.shift) c.args.width)

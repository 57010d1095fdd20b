-- `word::byte_set::ByteSet::new` meets its contract. Assumes nothing.
use Rattle.std.proofs.Common.{◌/◌, ◌%◌}
use Rattle.word.specs.ByteSet.{member}
use Rattle.word.proofs.byte_set.Members.{no_bits, zero_bit}
use Rattle.word.proofs.byte_set.ByteSet.new.Goals as goal

pub returns : goal.returns
unfolding member
returns c x h = rw (no_bits (x / 64)) (zero_bit (x % 64))

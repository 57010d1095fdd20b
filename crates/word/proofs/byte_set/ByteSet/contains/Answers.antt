-- `word::byte_set::ByteSet::contains` meets its contract. Assumes nothing.
use Rattle.word.specs.Bits.{bit}
use Rattle.word.specs.ByteSet.{member}
use Rattle.word.proofs.byte_set.ByteSet.contains.Goals as goal

pub returns : goal.returns
unfolding member bit
returns c = rw (c.bits_at.ensures, c.from.ensures, c.from-2.ensures)

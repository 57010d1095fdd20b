-- A set of bytes as 256 bits in four numbers of 64, the lowest first. Assumes nothing.
use Rattle.std.specs.Prelude.{ℕ, ◌/◌, ◌%◌, Bool, slice_index}
use Rattle.word.specs.declared.byte_set.ByteSet.{ByteSet}
use Rattle.word.specs.Bits.{bit}

-- b, below 256, is in the set
unfoldable pub member : ByteSet → ℕ → Bool
member s b = bit (slice_index s.bits (b / 64)) (b % 64)

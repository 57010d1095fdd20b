-- Bits of a number, counted from bit 0, the lowest. Assumes nothing.
use Rattle.std.specs.Prelude.{ℕ, ◌/◌, ◌%◌, ◌^◌, Bool, ◌==◌}

-- `width` bits of x from bit `shift` up, as a number
abbrev pub bits : ℕ → ℕ → ℕ → ℕ
bits x shift width = x / 2 ^ shift % 2 ^ width

-- bit k of x is set
unfoldable pub bit : ℕ → ℕ → Bool
bit x k = bits x k 1 == 1

-- A value that may grow out of 64 bits (src/value.rt). Assumes nothing.
use Rattle.std.specs.Prelude.{ℕ, ◌^◌, Option, Some, None, nat_lt, if◌then◌else◌}

-- a value that has 64 bits
unfoldable pub grown_to : ℕ → Option ℕ
grown_to v = if nat_lt v (2 ^ 64) then Some v else None

-- Packed numbers, as the record has them: eight bytes, the first one highest. Assumes nothing.
use Rattle.std.specs.Prelude.{ℕ, ◌+◌, ◌-◌, ◌*◌, ◌/◌, ◌%◌, ◌^◌, List, [], ◌∷◌}

-- byte `place`, counted from the highest
unfoldable pub byte_of : ℕ → ℕ → ℕ
byte_of packed place = packed / 2 ^ ((7 - place) * 8) % 256

-- with one more byte behind the lowest; the highest one is lost
unfoldable pub with_byte : ℕ → ℕ → ℕ
with_byte packed b = packed % 2 ^ 56 * 256 + b

-- likewise with a number's lowest byte, and with those of several numbers
abbrev pub low_byte_behind : ℕ → ℕ → ℕ
low_byte_behind packed n = with_byte packed (n % 256)

abbrev pub all_behind : ℕ → List ℕ → ℕ
all_behind packed [] = packed
all_behind packed (n ∷ rest) = all_behind (low_byte_behind packed n) rest

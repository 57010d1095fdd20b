-- The format word of 128 bits that two halves of 64 stand for, and its fields (document 01, "The word"). Assumes nothing.
use Rattle.std.specs.Prelude.{ℕ, ◌+◌, ◌*◌, ◌^◌, Bool, cond, ◌==◌}
use Rattle.word.specs.declared.format_flags.Format.{Format}
use Rattle.word.specs.Bits.{bits, bit}

unfoldable pub word : Format → ℕ
word f = f.hi * 2 ^ 64 + f.lo

-- `width` bits of the word from bit `shift` up
unfoldable pub field : Format → ℕ → ℕ → ℕ
field f shift width = bits (word f) shift width

-- bit k of the word is set
unfoldable pub flag : Format → ℕ → Bool
flag f k = bit (word f) k

abbrev pub digit_separator : Format → ℕ
digit_separator f = field f 64 8

abbrev pub base_prefix : Format → ℕ
base_prefix f = field f 88 8

abbrev pub base_suffix : Format → ℕ
base_suffix f = field f 96 8

abbrev pub mantissa_radix : Format → ℕ
mantissa_radix f = field f 104 8

-- the eight bits from `shift` up as a radix, where 0 means the mantissa radix
unfoldable pub radix_at : Format → ℕ → ℕ
radix_at f shift = cond (field f shift 8 == 0) (mantissa_radix f) (field f shift 8)

abbrev pub exponent_base : Format → ℕ
exponent_base f = radix_at f 112

abbrev pub exponent_radix : Format → ℕ
exponent_radix f = radix_at f 120

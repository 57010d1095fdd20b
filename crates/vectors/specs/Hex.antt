-- Numbers in upper-case hex, as the record has them. Assumes nothing.
use Rattle.std.specs.Prelude.{ℕ, ◌+◌, ◌-◌, ◌*◌, cond, ◌&&◌, List, [], ◌∷◌, nat_le, nat_lt, length, Option, None, Some}
use Rattle.word.specs.Digit.{among}

-- 0 to 15 for `0`..`9` and `A`..`F`, and nothing for any other byte
unfoldable pub hex_value : ℕ → Option ℕ
hex_value c =
    cond (among 48 57 c) (Some (c - 48))
    (cond (among 65 70 c) (Some (c - 65 + 10)) None)

-- what comes of a digit, if there is one
abbrev pub if_digit : Option ℕ → (ℕ → Option ℕ) → Option ℕ
if_digit None goes_on = None
if_digit (Some d) goes_on = goes_on d

-- the number that digits spell after those that spell `value`; nothing at a byte that is no digit
unfoldable pub read_from : ℕ → List ℕ → Option ℕ
read_from value [] = Some value
read_from value (c ∷ rest) = if_digit (hex_value c) (λ d. read_from (value * 16 + d) rest)

-- the number that one to sixteen digits spell
unfoldable pub read_hex : List ℕ → Option ℕ
read_hex digits = cond (nat_lt 0 (length digits) && nat_le (length digits) 16) (read_from 0 digits) None

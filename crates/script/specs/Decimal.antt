-- A number as decimal digits, without zeros in front. Assumes nothing.
use Rattle.std.specs.Prelude.{ℕ, zero, suc, ◌/◌, cond, List, nat_lt}
use Rattle.io.specs.Digits.{last_digits}

-- how many digits a number has, of which it has at most `most` + 1
abbrev pub digit_count : ℕ → ℕ → ℕ
digit_count zero n = 1
digit_count (suc most) n = cond (nat_lt n 10) 1 (suc (digit_count most (n / 10)))

-- a number below 10 ^ 20 in decimal; every number of 64 bits is
unfoldable pub decimal : ℕ → List ℕ
decimal n = last_digits 10 (digit_count 19 n) n

-- The value of digits, for every radix together (document 02, 2026-01). Assumes nothing.
use Rattle.std.specs.Prelude.{ℕ, ◌+◌, ◌*◌, List, [], ◌∷◌, Option, Some, None}
use Rattle.word.specs.Digit.{digit_value}

-- one digit behind others that have the value v; no run takes a byte without a value (digits-have-values, proofs/Digits)
abbrev pub with_digit : ℕ → ℕ → Option ℕ → ℕ
with_digit radix v (Some d) = v * radix + d
with_digit radix v None = v

abbrev pub value_from : ℕ → ℕ → List ℕ → ℕ
value_from radix v [] = v
value_from radix v (b ∷ rest) = value_from radix (with_digit radix v (digit_value b)) rest

unfoldable pub value_of : ℕ → List ℕ → ℕ
value_of radix digits = value_from radix 0 digits

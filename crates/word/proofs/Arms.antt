-- The last arm of a `match` on a number: what is left where it is none of the numbers before. For the tables that stand as the arms of
-- one, `row_of` here and `rule_word` in reader. Assumes nothing.
use Rattle.std.proofs.Common.{◌≡◌, ℕ, zero, suc, ◌<◌, arith}

-- k is none of the numbers up to n
abbrev pub Past : ℕ → ℕ → Type 0
Past zero k = Unit {0} × (k ≡ 0 → ⊥)
Past (suc n) k = Past n k × (k ≡ suc n → ⊥)

pub past : (n k : ℕ) → Past n k → n < k
past zero k h = omega (arith, h.1)
past (suc n) k h = omega (arith, past n k h.0, h.1)

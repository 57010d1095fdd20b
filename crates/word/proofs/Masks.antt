-- One bit, shifted to any place of 64, and the places past 64 bits: for `bits_at`, `bit_at` and `ByteSet::insert`. Assumes nothing.
use Rattle.std.proofs.Common.{◌≡◌, ℕ, ◌*◌, ◌%◌, ◌^◌, ◌<◌, ◌≤◌, false, ◌∙◌, lt_of_lt_of_le, arith, pow_mono, shl_exact}
use native.Mathlib.Nat.{div-eq_of_lt}
use Rattle.word.specs.Bits.{bit}

-- what `1 << place` is: nothing is lost of it
pub one_shifted : (place : ℕ) → place < 64 → (1 * 2 ^ place) % 2 ^ 64 ≡ 2 ^ place
one_shifted place h = shl_exact {a = 1} 1 place 64 (omega arith) (omega arith) ∙ omega arith

pub no_bit_past : (x place : ℕ) → x < 2 ^ 64 → 64 ≤ place → bit x place ≡ false
unfolding bit
no_bit_past x place small h = rw (div-eq_of_lt (lt_of_lt_of_le small (pow_mono h)))

-- The number in the bytes of a record's body, read from the highest byte down: for `little_endian`, and one byte for `byte_at`. Assumes
-- nothing.
use mathlib.Core.Path.{◌≡◌}
use mathlib.Core.List.{List, [], ◌∷◌, ◌++◌}
use Prim.Native.Nat.{ℕ, ◌^◌, ◌≤◌, ◌<◌}
use native.Mathlib.Omega.{arith}
use native.Mathlib.Nat.{pow-le-pow_right}
use lib.ListN.{length, get_or, length-append}
use lib.Seq.{drop-cons}
use Rattle.script.specs.Record.{little_endian, number_at}

pub byte_number : (s : List ℕ) (place : ℕ) → place < length s → get_or s place 0 ≡ number_at s place 1
byte_number s place inside = rw (drop-cons s place 0 inside) (omega arith)

-- of bytes of which the first, `left`, are still to be read: the number in those behind them
pub record Reading (bytes left : List ℕ) (number : ℕ) : Type 0 where
  pub read : List ℕ
  pub whole : bytes ≡ left ++ read
  pub value : number ≡ little_endian read
  pub fits : number < 256 ^ length read

-- there is room for one more byte below 2 ^ 64
pub reading_room : {bytes left : List ℕ} {number : ℕ} (left' : List ℕ) (b : ℕ) → Reading bytes left number → left ≡ left' ++ (b ∷ []) → length bytes ≤ 8 → number < 256 ^ 7
reading_room left' b here next small =
    let fewer : length here.read ≤ 7 = omega (arith, simp (here.whole, next, length-append) at small) in
    let most : 256 ^ length here.read ≤ 256 ^ 7 = pow-le-pow_right (omega arith) {i = length here.read} {j = 7} fewer in
    omega (arith, here.fits, most)

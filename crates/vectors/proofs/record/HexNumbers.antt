-- Numbers in hex: what one more digit does to a number, for `read_number`. Assumes nothing.
use Rattle.std.proofs.Common.{◌≡◌, ℕ, ◌+◌, ◌*◌, ◌^◌, ◌≤◌, ◌<◌, List, length, drop, get_or, add-one, arith, drop-cons, Option, None, Some}
use native.Mathlib.Nat.{pow-suc, pow-le-pow_right}
use lib.ListN.{drop_of_length-le}
use borrow.Author.Tests.{le-leb, lt-leb, le-ltb, lt-ltb}
use Rattle.vectors.specs.Hex.{hex_value, if_digit, read_from, read_hex}

module _ (c : ℕ) where
  -- a digit is below 16
  pub small : (d : ℕ) → hex_value c ≡ Some d → d < 16
  unfolding hex_value
  small d is = grind arith

module _ (digits : List ℕ) where
  pub empty : length digits ≤ 0 → None ≡ read_hex digits
  unfolding read_hex
  empty nothing = simp (le-ltb 0 (length digits) nothing)

  pub long : 16 < length digits → None ≡ read_hex digits
  unfolding read_hex
  long many = simp (lt-ltb 0 (length digits) (omega arith), lt-leb (length digits) 16 many)

  pub read_hex_lem : 0 < length digits → length digits ≤ 16 → read_hex digits ≡ read_from 0 digits
  unfolding read_hex
  read_hex_lem filled few = simp (lt-ltb 0 (length digits) filled, le-leb (length digits) 16 few)

  pub read_end : (value i : ℕ) → length digits ≤ i → read_from value (drop i digits) ≡ Some value
  unfolding read_from
  read_end value i end = rw (drop_of_length-le digits end)

  -- what the next byte does, by its value as a digit
  pub read_next : (value i : ℕ) (d : Option ℕ) → i < length digits → d ≡ hex_value (get_or digits i 0)
      → read_from value (drop i digits) ≡ if_digit d (λ d. read_from (value * 16 + d) (drop (i + 1) digits))
  unfolding read_from
  read_next value i d inside is = rw (add-one, drop-cons digits i 0 inside, is)

module _ (value i d : ℕ) (bounded : value < 16 ^ i) (small : d < 16) where
  pub grows : value * 16 + d < 16 ^ (i + 1)
  grows = rw (add-one, pow-suc 16 i) (omega arith)

  pub fits : i < 16 → value * 16 + d < 2 ^ 64
  fits few =
      let most : 16 ^ (i + 1) ≤ 16 ^ 16 = pow-le-pow_right (omega arith) {i = i + 1} {j = 16} (omega arith) in
      omega (arith, grows, most)

-- The table of values has each byte's own entry, its value or 255 for none, and what such an entry says: for the functions that read
-- it. Assumes nothing.
use Rattle.std.proofs.Common.{◌≡◌, ℕ, ◌*◌, ◌/◌, ◌%◌, ◌<◌, ◌≤◌, Bool, true, false, eqb, ltb, leb, Some, None, Option, sym, refl, arith, eqb-true, leb-true}
use Rattle.std.proofs.lemmas.Bool.{and_parts}
use Rattle.word.specs.Bits.{bits}
use Rattle.word.specs.Digit.{among, digit_value, is_digit, below, entry, entries_from}
use Rattle.word.proofs.digit.AllBytes.{at_byte}

-- what a byte's row of the table has at its place, which is its own entry
abbrev pub in_row : ℕ → ℕ
in_row c = bits (entries_from (8 * (c / 8)) 8) (c % 8 * 8) 8

pub row_told : (c : ℕ) → c < 256 → in_row c ≡ entry (digit_value c)
unfolding digit_value
row_told c byte = eqb-true (in_row c) (entry (digit_value c)) (at_byte (λ (b : ℕ). eqb (in_row b) (entry (digit_value b))) refl c byte)

entry-below : (v : Option ℕ) (radix : ℕ) → ltb (entry v) radix ≡ below v radix
entry-below (Some v) radix = refl
entry-below None radix = refl

-- below the radix are the entries of its digits
pub digit_told : (c radix : ℕ) → ltb (entry (digit_value c)) radix ≡ is_digit c radix
unfolding is_digit
digit_told c radix = entry-below (digit_value c) radix

-- a byte of a range stands not behind its last
pub up_to : (first last c : ℕ) → among first last c ≡ true → c ≤ last
up_to first last c e = leb-true c last (and_parts (leb first c) (leb c last) e).1

-- a value is below 36, so the entry 255 stands for none alone
no_value : (c : ℕ) → entry (digit_value c) ≡ 255 → digit_value c ≡ None
unfolding digit_value
no_value c e = go (among 48 57 c) (among 65 90 c) (among 97 122 c) refl refl refl where
  go : (x y z : Bool) → among 48 57 c ≡ x → among 65 90 c ≡ y → among 97 122 c ≡ z → digit_value c ≡ None
  go true y z p q r = absurd (let large = rw p at e in omega (arith, up_to 48 57 c p))
  go false true z p q r = absurd (let large = rw (p, q) at e in omega (arith, up_to 65 90 c q))
  go false false true p q r = absurd (let large = rw (p, q, r) at e in omega (arith, up_to 97 122 c r))
  go false false false p q r = rw (p, q, r)

a_value : (v : Option ℕ) → (entry v ≡ 255 → ⊥) → Some (entry v) ≡ v
a_value (Some v) h = refl
a_value None h = absurd (h refl)

pub none_told : (c : ℕ) → entry (digit_value c) ≡ 255 → None ≡ digit_value c
none_told c e = sym (no_value c e)

pub value_told : (c : ℕ) → (entry (digit_value c) ≡ 255 → ⊥) → Some (entry (digit_value c)) ≡ digit_value c
value_told c h = a_value (digit_value c) h

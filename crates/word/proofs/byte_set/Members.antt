-- Members of the empty set of bytes, for `ByteSet::new`, and of a set with one more byte, for `insert`. Assumes nothing.
use Rattle.std.proofs.Common.{◌≡◌, ℕ, zero, suc, ◌+◌, ◌-◌, ◌/◌, ◌%◌, ◌^◌, ◌<◌, Bool, true, false, ◌||◌, eqb, ltb, List, [], ◌∷◌, length, get_or, set, bit_or, sym, refl, ap, mod-lt, pow-suc, arith, get_or-set_other, get_or-set_same, pow_pos, pow-add, ltb-false, ltb-true, eq-eqb, ne_eqb, eqb-true}
use native.Mathlib.Nat.{div_self, div-eq_of_lt, mul-mod_left, zero-div}
use lib.Pow.{pow-lt, shl-shr}
use lib.Bits.{or_shr, or_mod, or_zero_r}
use borrow.Author.Tests.{eqb-false}
use Rattle.word.specs.Bits.{bits, bit}

pub no_bits : (k : ℕ) → ◌≡◌ {A = ℕ} (get_or (0 ∷ 0 ∷ 0 ∷ 0 ∷ []) k 0) 0
no_bits zero = refl
no_bits (suc zero) = refl
no_bits (suc (suc zero)) = refl
no_bits (suc (suc (suc zero))) = refl
no_bits (suc (suc (suc (suc k)))) = refl

pub zero_bit : (k : ℕ) → bit 0 k ≡ false
unfolding bit
zero_bit k = rw (zero-div (2 ^ k))

-- of the number with bit k alone, bit k is set
own_bit : (k : ℕ) → bits (2 ^ k) k 1 ≡ 1
own_bit k = rw (div_self (pow_pos k))

-- and no other
above : (m j : ℕ) → bits (2 ^ (suc m + j)) j 1 ≡ 0
above m j = rw (pow-add 2 (suc m) j, shl-shr (2 ^ suc m) j, pow-suc 2 m) (mul-mod_left (2 ^ m) 2)

other_bit : (k j : ℕ) → (j ≡ k → ⊥) → bits (2 ^ k) j 1 ≡ 0
other_bit k j differ = go (ltb j k) refl where
  go : (b : Bool) → ltb j k ≡ b → bits (2 ^ k) j 1 ≡ 0
  go true t = let h = ltb-true j k t in let e : suc (k - (j + 1)) + j ≡ k = omega arith in rw e at (above (k - (j + 1)) j)
  go false t =
      let h = ltb-false j k t in
      let less : k < j = omega (arith, differ) in
      rw (div-eq_of_lt (pow-lt less))

bits_or : (x y j : ℕ) → bits (bit_or x y) j 1 ≡ bit_or (bits x j 1) (bits y j 1)
bits_or x y j = rw (or_shr x y j) (or_mod (x / 2 ^ j) (y / 2 ^ j) 1)

set_with_one : (v : ℕ) → v < 2 → eqb (bit_or v 1) 1 ≡ true
set_with_one zero h = refl
set_with_one (suc zero) h = refl
set_with_one (suc (suc v)) h = absurd (let z : suc (suc v) < 2 = h in omega arith)

pub or_bit : (x k j : ℕ) → bit (bit_or x (2 ^ k)) j ≡ (eqb j k || bit x j)
unfolding bit
or_bit x k j = go (eqb j k) refl where
  go : (b : Bool) → eqb j k ≡ b → bit (bit_or x (2 ^ k)) j ≡ (eqb j k || bit x j)
  go true t = rw (t, eqb-true j k t, bits_or x (2 ^ k) k, own_bit k) (set_with_one _ (mod-lt (x / 2 ^ k) (omega arith)))
  go false t = rw (t, bits_or x (2 ^ k) j, other_bit k j (eqb-false j k t), or_zero_r (bits x j 1))

-- numbers of the same 64 are told apart by their rest
same_rest : (x b : ℕ) → x / 64 ≡ b / 64 → eqb (x % 64) (b % 64) ≡ eqb x b
same_rest x b e = go (eqb x b) refl where
  go : (t : Bool) → eqb x b ≡ t → eqb (x % 64) (b % 64) ≡ eqb x b
  go true t = rw (t, eqb-true x b t) (eq-eqb (b % 64) (b % 64) refl)
  go false t = rw t (ne_eqb (x % 64) (b % 64) (λ r. eqb-false x b t (omega arith)))

-- four numbers of 64 bits, with bit b set
abbrev pub with_bit : List ℕ → ℕ → List ℕ
with_bit s b = set s (b / 64) (bit_or (get_or s (b / 64) 0) (2 ^ (b % 64)))

module _ (s : List ℕ) (b x : ℕ) (four : length s ≡ 4) (hb : b < 256) where
  pub inserted : bit (get_or (with_bit s b) (x / 64) 0) (x % 64) ≡ (eqb x b || bit (get_or s (x / 64) 0) (x % 64))
  inserted = go (eqb (x / 64) (b / 64)) refl where
    go : (t : Bool) → eqb (x / 64) (b / 64) ≡ t → bit (get_or (with_bit s b) (x / 64) 0) (x % 64) ≡ (eqb x b || bit (get_or s (x / 64) 0) (x % 64))
    go true t =
        let e = eqb-true (x / 64) (b / 64) t in
        let h : b / 64 < length s = omega arith in
        rw (sym (same_rest x b e), e, get_or-set_same s (b / 64) (bit_or (get_or s (b / 64) 0) (2 ^ (b % 64))) 0 h)
        (or_bit (get_or s (b / 64) 0) (b % 64) (x % 64))
    go false t =
        let ne = eqb-false (x / 64) (b / 64) t in
        rw (get_or-set_other s (b / 64) (x / 64) (bit_or (get_or s (b / 64) 0) (2 ^ (b % 64))) 0 ne, ne_eqb x b (λ e. ne (ap (λ (n : ℕ). n / 64) e)))

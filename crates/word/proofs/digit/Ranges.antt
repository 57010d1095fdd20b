-- A digit told by the ranges of figures and letters, for `char_is_digit_by_range`: the distance of a byte from `0`, and of its small
-- letter from `a`, both modulo 256, are below the number of figures or letters exactly where the definition says so. Assumes nothing.
use Rattle.std.proofs.Common.{◌≡◌, ℕ, ◌+◌, ◌-◌, ◌%◌, ◌<◌, ◌≤◌, min, Bool, true, false, cond, ◌&&◌, ◌||◌, eqb, ltb, leb, bit_or, Some, None, sym, refl, ap, ◌∙◌, arith, ltb-false, ltb-true, le-ltb, lt-ltb, eqb-true, leb-true}
use Rattle.std.proofs.Math.Bool.{or-false}
use Rattle.std.proofs.lemmas.Bool.{and_parts}
use Rattle.word.specs.Digit.{among, digit_value, is_digit, below}
use Rattle.word.proofs.digit.AllBytes.{at_byte}
use Rattle.word.proofs.digit.Table.{up_to}

-- the two distances
abbrev figure : ℕ → ℕ
figure c = (c + 208) % 256

abbrev letter : ℕ → ℕ
letter c = (bit_or c 32 + 159) % 256

-- what they are of a figure, a large letter, a small one, and any other byte
abbrev apart : ℕ → Bool
apart c =
    cond (among 48 57 c) (eqb (figure c) (c - 48) && leb 26 (letter c))
    (cond (among 65 90 c) (leb 10 (figure c) && eqb (letter c) (c - 65))
    (cond (among 97 122 c) (leb 10 (figure c) && eqb (letter c) (c - 97)) (leb 10 (figure c) && leb 26 (letter c))))

all_apart : (c : ℕ) → c < 256 → apart c ≡ true
all_apart c h = at_byte apart refl c h

-- tests that agree
same_test : (a b x y : ℕ) → (a < b → x < y) → (x < y → a < b) → ltb a b ≡ ltb x y
same_test a b x y to from = go (ltb x y) refl where
  go : (t : Bool) → ltb x y ≡ t → ltb a b ≡ t
  go true e = lt-ltb a b (from (ltb-true x y e))
  go false e = go_false (ltb a b) refl where
    go_false : (u : Bool) → ltb a b ≡ u → ltb a b ≡ false
    go_false true q = absurd (omega (arith, to (ltb-true a b q), ltb-false x y e))
    go_false false q = q

module _ (radix f l : ℕ) where
  abbrev told : Bool
  told = ltb f (min radix 10) || ltb l (min (radix - 10) 26)

  figure_told : f < 10 → 26 ≤ l → told ≡ ltb f radix
  figure_told h k =
      rw (le-ltb l (min (radix - 10) 26) (omega arith), or-false) (same_test f (min radix 10) f radix (λ p. omega arith) (λ p. omega arith))

  letter_told : 10 ≤ f → l < 26 → told ≡ ltb (l + 10) radix
  letter_told h k =
      rw (le-ltb f (min radix 10) (omega arith)) (same_test l (min (radix - 10) 26) (l + 10) radix (λ p. omega arith) (λ p. omega arith))

  other_told : radix < 256 → 10 ≤ f → 26 ≤ l → told ≡ ltb 255 radix
  other_told small h k =
      rw (le-ltb f (min radix 10) (omega arith), le-ltb l (min (radix - 10) 26) (omega arith), le-ltb 255 radix (omega arith))

-- the law, of the two distances as a wrapping subtraction gives them
module _ (c radix f l : ℕ) (byte : c < 256) (small : radix < 256) where
  pub told_by_range : f ≡ figure c → l ≡ letter c → (ltb f (min radix 10) || ltb l (min (radix - 10) 26)) ≡ is_digit c radix
  unfolding is_digit digit_value
  told_by_range ef el = rw (ef, el) (go (among 48 57 c) (among 65 90 c) (among 97 122 c) refl refl refl (all_apart c byte)) where
    go : (x y z : Bool) → among 48 57 c ≡ x → among 65 90 c ≡ y → among 97 122 c ≡ z → apart c ≡ true
        → (ltb (figure c) (min radix 10) || ltb (letter c) (min (radix - 10) 26))
        ≡ below (cond (among 48 57 c) (Some (c - 48)) (cond (among 65 90 c) (Some (c - 65 + 10)) (cond (among 97 122 c) (Some (c - 97 + 10)) None))) radix
    go true y z p q r e =
        let both = and_parts (eqb (figure c) (c - 48)) (leb 26 (letter c)) (rw p at e) in
        let same = eqb-true (figure c) (c - 48) both.0 in
        let far = leb-true 26 (letter c) both.1 in
        let last = up_to 48 57 c p in
        rw p (figure_told radix (figure c) (letter c) (omega arith) far ∙ ap (λ (n : ℕ). ltb n radix) same)
    go false true z p q r e =
        let both = and_parts (leb 10 (figure c)) (eqb (letter c) (c - 65)) (rw (p, q) at e) in
        let far = leb-true 10 (figure c) both.0 in
        let same = eqb-true (letter c) (c - 65) both.1 in
        let last = up_to 65 90 c q in
        rw (p, q) (letter_told radix (figure c) (letter c) far (omega arith) ∙ ap (λ (n : ℕ). ltb (n + 10) radix) same)
    go false false true p q r e =
        let both = and_parts (leb 10 (figure c)) (eqb (letter c) (c - 97)) (rw (p, q, r) at e) in
        let far = leb-true 10 (figure c) both.0 in
        let same = eqb-true (letter c) (c - 97) both.1 in
        let last = up_to 97 122 c r in
        rw (p, q, r) (letter_told radix (figure c) (letter c) far (omega arith) ∙ ap (λ (n : ℕ). ltb (n + 10) radix) same)
    go false false false p q r e =
        let both = and_parts (leb 10 (figure c)) (leb 26 (letter c)) (rw (p, q, r) at e) in
        let far = leb-true 10 (figure c) both.0 in
        let off = leb-true 26 (letter c) both.1 in
        rw (p, q, r) (other_told radix (figure c) (letter c) small far off)

-- up to radix 10 the figures say all
pub told_by_figure : (c radix f : ℕ) → c < 256 → radix ≤ 10 → f ≡ figure c → ltb f radix ≡ is_digit c radix
told_by_figure c radix f byte small ef =
    let figures : min radix 10 ≡ radix = omega arith in
    let no_letter : ltb (letter c) (min (radix - 10) 26) ≡ false = le-ltb (letter c) (min (radix - 10) 26) (omega arith) in
    sym (or-false (ltb f radix)) ∙ rw (figures, no_letter) at (told_by_range c radix f (letter c) byte (omega arith) ef refl)

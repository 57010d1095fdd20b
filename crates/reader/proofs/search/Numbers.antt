-- Digits as one number, over any base and any count: two such numbers are equal exactly when the digits are, and two side by side are the
-- number of all their digits. Theorems, used by no function: the compare of eight bytes is compiled to one of two numbers. Assumes nothing.
use Rattle.std.proofs.Common.{◌≡◌, ℕ, ◌+◌, ◌*◌, ◌/◌, ◌%◌, ◌^◌, ◌<◌, ◌≤◌, List, [], ◌∷◌, ◌++◌, length, get_or, take, drop, sym, refl, ap, ◌∙◌, add_assoc, mod-eq_of_lt, mul_assoc, mul-le-mul_left, zero-add, mul-add, arith, length-append, drop-cons, drop-drop, take-add}
use native.Mathlib.Nat.{pow-zero, pow-succ', add-mul-mod_self_left, add-mul-div_left, div-eq_of_lt}
use Rattle.reader.specs.Code.Eights.{number_in, AllBelow, NumberOf, BytesAt}

-- the lowest digit and the rest are told by the number
module _ (base a b x y : ℕ) (small : a < base) (small' : b < base) (same : a + base * x ≡ b + base * y) where
  same_lowest : a ≡ b
  same_lowest =
      sym (add-mul-mod_self_left a base x ∙ mod-eq_of_lt small) ∙ ap (λ (n : ℕ). n % base) same ∙ add-mul-mod_self_left b base y ∙ mod-eq_of_lt small'

  same_rest : x ≡ y
  same_rest =
      let positive : 0 < base = omega arith in
      let left : (a + base * x) / base ≡ x = add-mul-div_left a x positive ∙ rw (div-eq_of_lt small) (zero-add x) in
      let right : (b + base * y) / base ≡ y = add-mul-div_left b y positive ∙ rw (div-eq_of_lt small') (zero-add y) in
      sym left ∙ ap (λ (n : ℕ). n / base) same ∙ right

module _ (base : ℕ) where
  same_digits : (l m : List ℕ) → AllBelow base l → AllBelow base m → length l ≡ length m → number_in base l ≡ number_in base m → l ≡ m
  same_digits [] [] all all' size same = refl
  same_digits [] (b ∷ m) all all' size same = absurd (omega arith)
  same_digits (a ∷ l) [] all all' size same = absurd (omega arith)
  same_digits (a ∷ l) (b ∷ m) all all' size same =
      let lowest : a ≡ b = same_lowest base a b (number_in base l) (number_in base m) all.0 all'.0 same in
      let rest = same_rest base a b (number_in base l) (number_in base m) all.0 all'.0 same in
      rw (lowest, same_digits l m all.1 all'.1 (omega arith) rest)

  -- Two numbers of so many digits are equal exactly when the digits are.
  pub equal_as_digits : (n : ℕ) (l m : List ℕ) (x y : ℕ) → NumberOf base n l x → NumberOf base n m y → (x ≡ y → l ≡ m) × (l ≡ m → x ≡ y)
  equal_as_digits n l m x y of-l of-m = (
    λ same. same_digits l m of-l.below of-m.below (of-l.count ∙ sym of-m.count) (sym of-l.number ∙ same ∙ of-m.number),
    λ same. of-l.number ∙ ap (number_in base) same ∙ sym of-m.number,
  )

  all_below : (l m : List ℕ) → AllBelow base l → AllBelow base m → AllBelow base (l ++ m)
  all_below [] m all all' = all'
  all_below (d ∷ l) m all all' = (all.0, all_below l m all.1 all')

  joined_number : (l m : List ℕ) → number_in base (l ++ m) ≡ number_in base l + base ^ length l * number_in base m
  joined_number [] m = rw (pow-zero base) (omega arith)
  joined_number (d ∷ l) m =
      rw (joined_number l m, pow-succ', mul_assoc, mul-add, add_assoc)

  number_small : (l : List ℕ) → AllBelow base l → number_in base l < base ^ length l
  number_small [] all = rw (pow-zero base) (omega arith)
  number_small (d ∷ l) all =
      let most : base * (number_in base l + 1) ≤ base * base ^ length l = mul-le-mul_left base (omega (arith, number_small l all.1)) in
      rw (pow-succ') (omega (arith, all.0, rw mul-add at most))

  -- Two of them side by side.
  pub side_by_side : (n k : ℕ) (l m : List ℕ) (x y : ℕ) → NumberOf base n l x → NumberOf base k m y → NumberOf base (n + k) (l ++ m) (x + base ^ n * y)
  side_by_side n k l m x y of-l of-m =
      let size : length (l ++ m) ≡ n + k = length-append l m ∙ rw (of-l.count, of-m.count) in
      let all = all_below l m of-l.below of-m.below in
      let number : x + base ^ n * y ≡ number_in base (l ++ m) = rw (joined_number l m, of-l.number, of-m.number, of-l.count) in
      record { number = number; below = all; count = size; small = rw (number, ← size) (number_small (l ++ m) all) }

-- The bytes of a buffer from a place on: one, and of any width twice as many.
pub one_byte : (s : List ℕ) (at r : ℕ) → at + 1 ≤ length s → r ≡ get_or s at 0 → r < 256 → BytesAt 1 s at r
one_byte s at r inside same small =
    rw (drop-cons s at 0 (omega arith)) (record { number = omega (arith, same); below = (omega (arith, same), tt); count = refl; small = small })

pub twice_as_wide : (n : ℕ) (s : List ℕ) (at x y : ℕ) → BytesAt n s at x → BytesAt n s (at + n) y → BytesAt (n + n) s at (x + 256 ^ n * y)
twice_as_wide n s at x y low high =
    let joined : take n (drop at s) ++ take n (drop (at + n) s) ≡ take (n + n) (drop at s) = rw (take-add n n (drop at s), drop-drop n at s) in
    rw joined at (side_by_side 256 n n (take n (drop at s)) (take n (drop (at + n) s)) x y low high)

-- The fewest digits that hold a number, as `io::decimal` promises them, are those of the definition: for `long_number`; a number of one
-- digit: for `number` and the lines. Assumes nothing.
use mathlib.Core.Path.{◌≡◌, refl, ◌∙◌, ap}
use mathlib.Core.Bool.{Bool, true, false, cond}
use mathlib.Core.List.{List, [], ◌∷◌}
use Prim.Native.Nat.{ℕ, zero, suc, ◌+◌, ◌-◌, ◌/◌, ◌%◌, ◌^◌, ◌≤◌, ◌<◌}
use native.Mathlib.Omega.{arith, pow_step}
use native.Mathlib.Nat.{pow-le-pow_right}
use borrow.Author.Tests.{ltb-true, ltb-false, lt-ltb}
use lib.Dec.{ltb}
use lib.ListN.{take}
use Rattle.io.specs.Digits.{last_digits, IsDigitCount}
use Rattle.script.specs.Line.{longest_number}
use Rattle.script.specs.Decimal.{digit_count, decimal}

power_positive : (k : ℕ) → 1 ≤ 10 ^ k
power_positive zero = omega arith
power_positive (suc k) = omega (arith, pow_step 10 k, power_positive k)

minus_one : (k : ℕ) → suc k - 1 ≡ k
minus_one k = omega arith

-- a number that takes more than one digit reaches the power below
reaches : (n k : ℕ) → IsDigitCount 10 1 n (suc (suc k)) → 10 ^ suc k ≤ n
reaches n k few = let h : 10 ^ (suc (suc k) - 1) ≤ n = few.2 (omega arith) in rw (minus_one (suc k)) at h

one_digit : (n r : ℕ) → n < 10 → IsDigitCount 10 1 n r → r ≡ 1
one_digit n zero small few = omega (arith, few.0)
one_digit n (suc zero) small few = refl
one_digit n (suc (suc k)) small few = omega (arith, reaches n k few, pow_step 10 k, power_positive k)

-- a number of more digits has one more than a tenth of it
tenth : (n k : ℕ) → IsDigitCount 10 1 n (suc (suc k)) → IsDigitCount 10 1 (n / 10) (suc k)
tenth n k few =
    (omega arith, omega (arith, few.1, pow_step 10 (suc k)), λ more. rw (minus_one k) (omega (arith, reaches n k few, pow_step 10 k)))

pub fewest_counts : (most n r : ℕ) → IsDigitCount 10 1 n r → r ≤ suc most → r ≡ digit_count most n
fewest_counts zero n r few bound = omega (arith, few.0)
fewest_counts (suc most) n r few bound = go (ltb n 10) refl r few bound (fewest_counts most (n / 10)) where
  go : (b : Bool) → ltb n 10 ≡ b → (r : ℕ) → IsDigitCount 10 1 n r → r ≤ suc (suc most)
      → ((k : ℕ) → IsDigitCount 10 1 (n / 10) k → k ≤ suc most → k ≡ digit_count most (n / 10))
      → r ≡ cond b 1 (suc (digit_count most (n / 10)))
  go true e r few bound rest = one_digit n r (ltb-true n 10 e) few
  go false e zero few bound rest = omega (arith, few.0)
  go false e (suc zero) few bound rest = omega (arith, few.1, ltb-false n 10 e)
  go false e (suc (suc k)) few bound rest = ap suc (rest (suc k) (tenth n k few) (omega arith))

-- a number of 64 bits has at most this many digits
pub few_enough : (n r : ℕ) → n < 2 ^ 64 → IsDigitCount 10 1 n r → r ≤ longest_number
few_enough n r small few = go (ltb longest_number r) refl where
  go : (b : Bool) → ltb longest_number r ≡ b → r ≤ longest_number
  go false e = omega (arith, ltb-false longest_number r e)
  go true e =
      let more = ltb-true longest_number r e in
      let least : 10 ^ longest_number ≤ 10 ^ (r - 1) = pow-le-pow_right (omega arith) {i = longest_number} {j = r - 1} (omega (arith, more)) in
      let most : 10 ^ (r - 1) ≤ n = few.2 (omega (arith, more)) in
      omega (arith, least, most, small)

-- what `io::decimal` spells is the number in decimal
pub spelled : (n r : ℕ) (out : List ℕ) → n < 2 ^ 64 → IsDigitCount 10 1 n r → take r out ≡ last_digits 10 r n → take r out ≡ decimal n
unfolding decimal
spelled n r out small few digits-so = digits-so ∙ ap (λ (k : ℕ). last_digits 10 k n) (fewest_counts 19 n r few (few_enough n r small few))

-- a number below ten is one digit
pub digit_alone : (n : ℕ) → n < 10 → decimal n ≡ (48 + n) ∷ []
unfolding decimal
digit_alone n small =
    let e : n % 10 ≡ n = omega (arith, small) in
    rw (lt-ltb n 10 small, e, lt-ltb n 10 small)

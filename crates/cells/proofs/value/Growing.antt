-- A value with one digit more, for every radix together. Assumes nothing.
use Rattle.std.proofs.Common.{◌≡◌, ◌∙◌, ℕ, zero, suc, ◌+◌, ◌-◌, ◌*◌, ◌^◌, ◌<◌, ◌≤◌, Bool, true, false, cond, ltb, List, [], ◌∷◌, Some, None, Option, refl, mul-le-mul, arith, ltb-false, ltb-true, le-ltb, lt-ltb}
use Rattle.std.specs.Prelude.{Result, Ok, Err}
use Rattle.std.specs.Result.{OkIff, result_ok}
use Rattle.std.proofs.lemmas.Option.{same_Some}
use Rattle.word.specs.Digit.{among, digit_value}
use Rattle.word.proofs.digit.Table.{up_to}
use Rattle.cells.specs.Value.{with_digit, value_from}
use Rattle.cells.specs.Code.Growth.{grown_to}

-- a number up to a bound times a radix of eight bits
pub times_fits : (bound v radix : ℕ) → v ≤ bound → radix < 256 → v * radix ≤ bound * 255
times_fits bound v radix h small =
    let most : radix ≤ 255 = omega arith in
    mul-le-mul h most

-- a value that has 64 bits, and one that has more
pub fits_in : (v n : ℕ) → v ≡ n → n < 2 ^ 64 → Some v ≡ grown_to n
unfolding grown_to
fits_in v n same h = rw (lt-ltb n (2 ^ 64) h, same)

pub grows_out : (n : ℕ) → 2 ^ 64 ≤ n → None ≡ grown_to n
unfolding grown_to
grows_out n h = rw (le-ltb n (2 ^ 64) h)

-- what a conversion to 64 bits makes of a value
pub converted : {E : Type 0} (r : Result ℕ E) (n v : ℕ) → n ≡ v → OkIff r (n < 2 ^ 64) n → result_ok r ≡ grown_to v
converted (Ok x) n v same held = fits_in x v (held.1 ∙ same) (omega (arith, same, held.0))
converted (Err e) n v same above = grows_out v (omega (arith, same, above))

-- and what is known of it either way
pub grown_in : (n v : ℕ) → grown_to n ≡ Some v → (v ≡ n) × (n < 2 ^ 64)
unfolding grown_to
grown_in n v = go (ltb n (2 ^ 64)) refl where
  go : (t : Bool) → ltb n (2 ^ 64) ≡ t → cond t (Some n) None ≡ Some v → (v ≡ n) × (n < 2 ^ 64)
  go true e h = (cc, ltb-true n (2 ^ 64) e)
  go false e h = absurd (cc)

pub grown_out : (n : ℕ) → grown_to n ≡ None → 2 ^ 64 ≤ n
unfolding grown_to
grown_out n = go (ltb n (2 ^ 64)) refl where
  go : (t : Bool) → ltb n (2 ^ 64) ≡ t → cond t (Some n) None ≡ None → 2 ^ 64 ≤ n
  go true e h = absurd (cc)
  go false e h = ltb-false n (2 ^ 64) e

-- a digit's value is small
pub value_small : (c d : ℕ) → digit_value c ≡ Some d → d < 36
unfolding digit_value
value_small c d = go (among 48 57 c) (among 65 90 c) (among 97 122 c) refl refl refl where
  go : (t u v : Bool) → among 48 57 c ≡ t → among 65 90 c ≡ u → among 97 122 c ≡ v
      → cond t (Some (c - 48)) (cond u (Some (c - 65 + 10)) (cond v (Some (c - 97 + 10)) None)) ≡ Some d → d < 36
  go true u v e f g h = omega (arith, same_Some _ _ h, up_to 48 57 c e)
  go false true v e f g h = omega (arith, same_Some _ _ h, up_to 65 90 c f)
  go false false true e f g h = omega (arith, same_Some _ _ h, up_to 97 122 c g)
  go false false false e f g h = absurd (cc)

-- a value that has outgrown 64 bits stays so, whatever digits follow: the radix that outgrew it is above 0
digit_grows : (radix v : ℕ) (o : Option ℕ) → 0 < radix → v ≤ with_digit radix v o
digit_grows radix v None positive = omega arith
digit_grows radix v (Some d) positive =
    let grows : v * 1 ≤ v * radix = mul-le-mul {n₁ = v} {m₁ = 1} {n₂ = v} {m₂ = radix} (omega arith) positive in omega (arith, grows)

pub stays_above : (radix v : ℕ) (digits : List ℕ) → 0 < radix → 2 ^ 64 ≤ v → 2 ^ 64 ≤ value_from radix v digits
stays_above radix v [] positive above = above
stays_above radix v (b ∷ rest) positive above =
    stays_above radix (with_digit radix v (digit_value b)) rest positive (omega (arith, above, digit_grows radix v (digit_value b) positive))

pub radix_above : (v radix c : ℕ) → v < 2 ^ 64 → 2 ^ 64 ≤ with_digit radix v (digit_value c) → 0 < radix
radix_above v (suc radix) c small above = omega arith
radix_above v zero c small above = go (digit_value c) refl above where
  go : (o : Option ℕ) → digit_value c ≡ o → 2 ^ 64 ≤ with_digit 0 v o → 0 < 0
  go None e h = absurd (omega (arith, h))
  go (Some d) e h = absurd (omega (arith, h, value_small c d e))

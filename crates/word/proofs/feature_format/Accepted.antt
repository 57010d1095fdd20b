-- What a word has that the full check accepts, for demand 3 of the reader: its separator is no digit (line 4), and no reader has the
-- consecutive flag alone (lines 12 to 14). Assumes nothing.
use Rattle.std.proofs.Common.{◌≡◌, ℕ, zero, suc, ◌≤◌, max, Bool, true, false, not, List, [], ◌∷◌, ◌++◌, Some, None, Option, refl, arith, ltb-false, le-ltb}
use borrow.Author.Tests.{not-true}
use Rattle.std.proofs.lemmas.Bool.{false≢true}
use Rattle.word.specs.declared.format_flags.Format.{Format}
use Rattle.word.specs.Word.{digit_separator, base_prefix, base_suffix, mantissa_radix, exponent_radix}
use Rattle.word.specs.Digit.{digit_value, below, is_digit}
use Rattle.word.specs.Check.{line, first_failing, valid_control_in, valid_control, valid_punctuation, consecutive_alone, radix_lines, control_lines, flag_lines, consecutive_lines, full_check}

-- where no line of a list fails, none of its parts fails
pub both_hold : (a b : List ℕ) → first_failing (a ++ b) ≡ 0 → (first_failing a ≡ 0) × (first_failing b ≡ 0)
both_hold [] b e = (refl, e)
both_hold (zero ∷ a) b e = both_hold a b e
both_hold (suc n ∷ a) b e = absurd (omega arith)

pub line_holds : (n : ℕ) (holds : Bool) (rest : List ℕ) → first_failing (line (suc n) holds ∷ rest) ≡ 0 → (holds ≡ true) × (first_failing rest ≡ 0)
line_holds n true rest e = (refl, e)
line_holds n false rest e = absurd (omega arith)

-- a byte that is no digit of a radix is none of a smaller one
less_below : (v : Option ℕ) (small large : ℕ) → small ≤ large → below v large ≡ false → below v small ≡ false
less_below (Some v) small large h e = le-ltb v small (omega (arith, ltb-false v large e))
less_below None small large h e = le-ltb 255 small (omega (arith, ltb-false 255 large e))

no_digit : (radix c : ℕ) → valid_control_in radix c ≡ true → is_digit c radix ≡ false
unfolding valid_control_in
no_digit radix c e = go (is_digit c radix) refl e where
  go : (t : Bool) → is_digit c radix ≡ t → valid_control_in radix c ≡ true → is_digit c radix ≡ false
  go false t h = t
  go true t h = absurd (false≢true (rw t at h))

module _ (f : Format) (accepted : full_check f ≡ 0) where
  lines_4_on : (first_failing (control_lines f) ≡ 0) × (first_failing (flag_lines f ++ consecutive_lines f) ≡ 0)
  unfolding full_check
  lines_4_on = both_hold (control_lines f) (flag_lines f ++ consecutive_lines f) (both_hold (radix_lines f) (control_lines f ++ (flag_lines f ++ consecutive_lines f)) accepted).1

  valid_separator : valid_control f (digit_separator f) ≡ true
  unfolding control_lines
  valid_separator =
      let rest = line 5 (valid_control f (base_prefix f)) ∷ line 6 (valid_control f (base_suffix f)) ∷ line 7 (valid_punctuation f) ∷ [] in
      (line_holds 3 (valid_control f (digit_separator f)) rest lines_4_on.0).0

  -- of no radix up to the larger of the two
  pub separator_no_digit : (radix : ℕ) → radix ≤ max (mantissa_radix f) (exponent_radix f) → is_digit (digit_separator f) radix ≡ false
  unfolding valid_control is_digit
  separator_no_digit radix h =
      less_below (digit_value (digit_separator f)) radix (max (mantissa_radix f) (exponent_radix f)) h
      (no_digit (max (mantissa_radix f) (exponent_radix f)) (digit_separator f) valid_separator)

  lines_12_on : first_failing (consecutive_lines f) ≡ 0
  lines_12_on = (both_hold (flag_lines f) (consecutive_lines f) lines_4_on.1).1

  pub none_alone : (consecutive_alone f 0 ≡ false) × (consecutive_alone f 1 ≡ false) × (consecutive_alone f 2 ≡ false)
  unfolding consecutive_lines
  none_alone =
      let at : (ℕ → Bool) = λ reader. not (consecutive_alone f reader) in
      let a = line_holds 11 (at 0) (line 13 (at 1) ∷ line 14 (at 2) ∷ []) lines_12_on in
      let b = line_holds 12 (at 1) (line 14 (at 2) ∷ []) a.1 in
      let c = line_holds 13 (at 2) [] b.1 in
      (not-true (consecutive_alone f 0) a.0, not-true (consecutive_alone f 1) b.0, not-true (consecutive_alone f 2) c.0)

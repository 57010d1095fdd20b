-- The two checks of a format word (document 01, "The check", "Without separators", "What the office log shows"):
-- the answer is the number of the first line that fails, or 0. Assumes nothing.
use Rattle.std.specs.Prelude.{ℕ, zero, suc, ◌+◌, ◌^◌, max, Bool, cond, not, ◌&&◌, ◌||◌, List, [], ◌∷◌, ◌++◌, ◌==◌, nat_le}
use Rattle.word.specs.declared.format_flags.Format.{Format}
use Rattle.word.specs.Word.{field, flag, digit_separator, base_prefix, base_suffix, mantissa_radix, exponent_base, exponent_radix}
use Rattle.word.specs.Digit.{is_digit}
use Rattle.word.specs.Ascii.{valid_ascii}

-- a line of the check: its number where it fails, 0 where it holds
abbrev pub line : ℕ → Bool → ℕ
line number holds = cond holds 0 number

-- the first number of the list that is not 0; 0 where there is none
abbrev pub first_failing : List ℕ → ℕ
first_failing [] = 0
first_failing (zero ∷ rest) = first_failing rest
first_failing (suc n ∷ rest) = suc n

-- from 2 to 36
abbrev pub valid_radix : ℕ → Bool
valid_radix radix = nat_le 2 radix && nat_le radix 36

-- no digit of the radix, neither `+` nor `-`, and either 0 or valid ASCII
unfoldable pub valid_control_in : ℕ → ℕ → Bool
valid_control_in radix c = not (is_digit c radix) && not (c == 43) && not (c == 45) && (valid_ascii c || c == 0)

-- a valid control byte of the word: by the larger of its mantissa and exponent radix
unfoldable pub valid_control : Format → ℕ → Bool
valid_control f c = valid_control_in (max (mantissa_radix f) (exponent_radix f)) c

abbrev pub two_are_zero : ℕ → ℕ → ℕ → Bool
two_are_zero a b c = (a == 0 && b == 0) || (a == 0 && c == 0) || (b == 0 && c == 0)

abbrev pub two_are_equal : ℕ → ℕ → ℕ → Bool
two_are_equal a b c = a == b || a == c || b == c

-- not: fewer than two of the three are 0 and two are equal
unfoldable pub valid_punctuation : Format → Bool
valid_punctuation f =
    two_are_zero (digit_separator f) (base_prefix f) (base_suffix f)
    || not (two_are_equal (digit_separator f) (base_prefix f) (base_suffix f))

unfoldable pub valid_exponent_flags : Format → Bool
valid_exponent_flags f = not (flag f 6 && flag f 14)

-- Of the separator flags of a counted reader (0 integer, 1 fraction, 2 exponent), internal, leading, trailing and
-- consecutive, the last alone is set.
unfoldable pub consecutive_alone : Format → ℕ → Bool
consecutive_alone f reader =
    flag f (41 + reader) && not (flag f (32 + reader)) && not (flag f (35 + reader)) && not (flag f (38 + reader))

unfoldable pub radix_lines : Format → List ℕ
radix_lines f =
    line 1 (valid_radix (mantissa_radix f))
    ∷ line 2 (valid_radix (exponent_base f))
    ∷ line 3 (valid_radix (exponent_radix f))
    ∷ []

unfoldable pub control_lines : Format → List ℕ
control_lines f =
    line 4 (valid_control f (digit_separator f))
    ∷ line 5 (valid_control f (base_prefix f))
    ∷ line 6 (valid_control f (base_suffix f))
    ∷ line 7 (valid_punctuation f)
    ∷ []

unfoldable pub flag_lines : Format → List ℕ
flag_lines f =
    line 8 (valid_exponent_flags f)
    ∷ line 9 (not (flag f 4 && flag f 5))
    ∷ line 10 (not (flag f 7 && flag f 8))
    ∷ line 11 (not (flag f 10 && (flag f 11 || flag f 44)))
    ∷ []

unfoldable pub consecutive_lines : Format → List ℕ
consecutive_lines f =
    line 12 (not (consecutive_alone f 0))
    ∷ line 13 (not (consecutive_alone f 1))
    ∷ line 14 (not (consecutive_alone f 2))
    ∷ []

-- the full check
unfoldable pub full_check : Format → ℕ
full_check f = first_failing (radix_lines f ++ (control_lines f ++ (flag_lines f ++ consecutive_lines f)))

-- of the bits 0 to 17 and 32 to 44 exactly 2 and 3 are set
unfoldable pub plain_flags : Format → Bool
plain_flags f = field f 0 18 == 2 ^ 2 + 2 ^ 3 && field f 32 13 == 0

unfoldable pub plain_control_lines : Format → List ℕ
plain_control_lines f =
    line 4 (digit_separator f == 0)
    ∷ line 5 (base_prefix f == 0)
    ∷ line 6 (base_suffix f == 0)
    ∷ []

-- the plain check, of the build without separators
unfoldable pub plain_check : Format → ℕ
plain_check f = first_failing (radix_lines f ++ (plain_control_lines f ++ (line 15 (plain_flags f) ∷ [])))

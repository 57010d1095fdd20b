-- A theorem: an answer's number tells the answer, so a contract that gives the number gives the whole answer. Assumes nothing.
use Rattle.std.proofs.Common.{◌≡◌, ℕ, cond, eqb, sym, refl, ap, ◌∙◌}
use denote.Enum.Bare.{sameb}
use denote.Enum.Declared.{tag_of}
use Rattle.word.specs.contracts.error.Error.{the_type}
use Rattle.word.specs.declared.error.Error.{Error}
use Rattle.word.specs.declared.error.Error.TheVariants.{Success, InvalidMantissaRadix, InvalidExponentBase, InvalidExponentRadix, InvalidDigitSeparator, InvalidBasePrefix, InvalidBaseSuffix, InvalidPunctuation, InvalidExponentFlags, InvalidMantissaSign, InvalidExponentSign, InvalidSpecial, InvalidConsecutiveIntegerDigitSeparator, InvalidConsecutiveFractionDigitSeparator, InvalidConsecutiveExponentDigitSeparator, InvalidFlags}
use Rattle.word.specs.Error.{number_of}

-- the answer with a number; the last one stands for all that is above 14
error_of : ℕ → Error
error_of n =
    cond (eqb n 0) Success
    (cond (eqb n 1) InvalidMantissaRadix
    (cond (eqb n 2) InvalidExponentBase
    (cond (eqb n 3) InvalidExponentRadix
    (cond (eqb n 4) InvalidDigitSeparator
    (cond (eqb n 5) InvalidBasePrefix
    (cond (eqb n 6) InvalidBaseSuffix
    (cond (eqb n 7) InvalidPunctuation
    (cond (eqb n 8) InvalidExponentFlags
    (cond (eqb n 9) InvalidMantissaSign
    (cond (eqb n 10) InvalidExponentSign
    (cond (eqb n 11) InvalidSpecial
    (cond (eqb n 12) InvalidConsecutiveIntegerDigitSeparator
    (cond (eqb n 13) InvalidConsecutiveFractionDigitSeparator
    (cond (eqb n 14) InvalidConsecutiveExponentDigitSeparator InvalidFlags))))))))))))))

error_of_number_of : (e : Error) → error_of (number_of e) ≡ e
unfolding error_of
error_of_number_of Success = refl
error_of_number_of InvalidMantissaRadix = refl
error_of_number_of InvalidExponentBase = refl
error_of_number_of InvalidExponentRadix = refl
error_of_number_of InvalidDigitSeparator = refl
error_of_number_of InvalidBasePrefix = refl
error_of_number_of InvalidBaseSuffix = refl
error_of_number_of InvalidPunctuation = refl
error_of_number_of InvalidExponentFlags = refl
error_of_number_of InvalidMantissaSign = refl
error_of_number_of InvalidExponentSign = refl
error_of_number_of InvalidSpecial = refl
error_of_number_of InvalidConsecutiveIntegerDigitSeparator = refl
error_of_number_of InvalidConsecutiveFractionDigitSeparator = refl
error_of_number_of InvalidConsecutiveExponentDigitSeparator = refl
error_of_number_of InvalidFlags = refl

pub number_tells : (a b : Error) → number_of a ≡ number_of b → a ≡ b
number_tells a b e = sym (error_of_number_of a) ∙ ap error_of e ∙ error_of_number_of b

-- the numbers that the enum declares
pub number_declared : (e : Error) → tag_of the_type e ≡ number_of e
number_declared Success = refl
number_declared InvalidMantissaRadix = refl
number_declared InvalidExponentBase = refl
number_declared InvalidExponentRadix = refl
number_declared InvalidDigitSeparator = refl
number_declared InvalidBasePrefix = refl
number_declared InvalidBaseSuffix = refl
number_declared InvalidPunctuation = refl
number_declared InvalidExponentFlags = refl
number_declared InvalidMantissaSign = refl
number_declared InvalidExponentSign = refl
number_declared InvalidSpecial = refl
number_declared InvalidConsecutiveIntegerDigitSeparator = refl
number_declared InvalidConsecutiveFractionDigitSeparator = refl
number_declared InvalidConsecutiveExponentDigitSeparator = refl
number_declared InvalidFlags = refl

pub success_told : (e : Error) → sameb the_type e Success ≡ eqb (number_of e) 0
success_told Success = refl
success_told InvalidMantissaRadix = refl
success_told InvalidExponentBase = refl
success_told InvalidExponentRadix = refl
success_told InvalidDigitSeparator = refl
success_told InvalidBasePrefix = refl
success_told InvalidBaseSuffix = refl
success_told InvalidPunctuation = refl
success_told InvalidExponentFlags = refl
success_told InvalidMantissaSign = refl
success_told InvalidExponentSign = refl
success_told InvalidSpecial = refl
success_told InvalidConsecutiveIntegerDigitSeparator = refl
success_told InvalidConsecutiveFractionDigitSeparator = refl
success_told InvalidConsecutiveExponentDigitSeparator = refl
success_told InvalidFlags = refl

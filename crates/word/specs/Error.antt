-- The number that document 01 gives to each answer of a check ("What the office log shows"). Assumes nothing.
use Rattle.std.specs.Prelude.{ℕ}
use Rattle.word.specs.declared.error.Error.{Error}
use Rattle.word.specs.declared.error.Error.TheVariants.{Success, InvalidMantissaRadix, InvalidExponentBase, InvalidExponentRadix, InvalidDigitSeparator, InvalidBasePrefix, InvalidBaseSuffix, InvalidPunctuation, InvalidExponentFlags, InvalidMantissaSign, InvalidExponentSign, InvalidSpecial, InvalidConsecutiveIntegerDigitSeparator, InvalidConsecutiveFractionDigitSeparator, InvalidConsecutiveExponentDigitSeparator, InvalidFlags}

abbrev pub number_of : Error → ℕ
number_of Success = 0
number_of InvalidMantissaRadix = 1
number_of InvalidExponentBase = 2
number_of InvalidExponentRadix = 3
number_of InvalidDigitSeparator = 4
number_of InvalidBasePrefix = 5
number_of InvalidBaseSuffix = 6
number_of InvalidPunctuation = 7
number_of InvalidExponentFlags = 8
number_of InvalidMantissaSign = 9
number_of InvalidExponentSign = 10
number_of InvalidSpecial = 11
number_of InvalidConsecutiveIntegerDigitSeparator = 12
number_of InvalidConsecutiveFractionDigitSeparator = 13
number_of InvalidConsecutiveExponentDigitSeparator = 14
number_of InvalidFlags = 15

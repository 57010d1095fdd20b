-- `word::digit::char_is_digit_by_range` meets its contract: the two differences are the byte's distances from `0` and `a`.
-- Assumes nothing.
use Rattle.std.proofs.Common.{arith, rules}
use Rattle.word.proofs.digit.Ranges.{told_by_range, told_by_figure}
use Rattle.word.proofs.digit.char_is_digit_by_range.Goals as goal

pub returns-then-radix-le10 : goal.returns-then-radix-le10
returns-then-radix-le10 c =
    let a = c.args in
    told_by_figure a.c a.radix _ (search rules) c.if-radix-le10.true (omega arith)

pub returns : goal.returns
returns c =
    let a = c.args in
    rw (c.min.ensures, c.letters_of.ensures) (told_by_range a.c a.radix _ _ (search rules) (search rules) (omega arith) (omega arith))

-- `word::digit::digit_value` meets its contract: the entry 255 stands for none. Assumes nothing.
use Rattle.std.proofs.Common.{sym, ◌∙◌}
use Rattle.word.proofs.digit.Table.{none_told, value_told}
use Rattle.word.proofs.digit.digit_value.Goals as goal

pub returns-then-value : goal.returns-then-value
returns-then-value c =
    let e = c.entry_of-value.ensures in
    none_told c.args.c (sym e ∙ c.if-value.true)

pub returns : goal.returns
returns c =
    let e = c.entry_of-value.ensures in
    rw e (value_told c.args.c (λ h. c.if-value.false (e ∙ h)))

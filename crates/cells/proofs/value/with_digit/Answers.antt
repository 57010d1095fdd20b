-- `cells::value::with_digit` meets its contract. Assumes nothing.
use Rattle.std.proofs.Common.{◌∙◌, refl, sym, arith}
use Rattle.cells.proofs.value.Growing.{value_small, fits_in}
use Rattle.cells.proofs.value.with_digit.Goals as goal

pub times_plus-requires : goal.times_plus-requires
times_plus-requires c =
    let small = value_small c.args.c c.in-Some.d (sym c.digit_value-digit.ensures ∙ c.in-Some.is) in
    (omega (arith, c.from.ensures, c.ranges.radix), omega (arith, c.from-in-Some.ensures, small))

pub returns-in-Some : goal.returns-in-Some
returns-in-Some c =
    let value = sym c.digit_value-digit.ensures ∙ c.in-Some.is in
    rw (c.times_plus.ensures, c.from-in-Some.ensures, c.from.ensures, value)

pub returns-in-None : goal.returns-in-None
returns-in-None c =
    let value = sym c.digit_value-digit.ensures ∙ c.in-None.is in
    rw value (fits_in _ _ refl (omega arith))

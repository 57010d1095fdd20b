-- `cells::value::times_plus` meets its contract (Growing). Assumes nothing.
use Rattle.std.proofs.Common.{◌≡◌, refl, ◌∙◌, ◌+◌, ◌*◌, arith}
use Rattle.cells.proofs.value.Growing.{times_fits, fits_in, converted}
use Rattle.cells.proofs.value.times_plus.Goals as goal

pub returns-then-small : goal.returns-then-small
returns-then-small c =
    let a = c.args in
    fits_in (a.value * a.radix + a.digit) _ refl (omega (arith, times_fits 72057594037927935 a.value a.radix (omega arith) c.requires.0, c.requires.1))

pub returns : goal.returns
returns c =
    let a = c.args in
    let same : c.from.result * c.from-2.result + c.from-3.result ≡ a.value * a.radix + a.digit = rw (c.from.ensures, c.from-2.ensures, c.from-3.ensures) in
    c.ok.ensures.value ∙ converted c.try_from.result _ _ same c.try_from.ensures

-- `export::over::is_over` meets its contract: each test in its turn. Assumes nothing.
use mathlib.Core.Path.{◌∙◌}
use borrow.Author.Tests.{eq-eqb, ne_eqb, le-leb, lt-leb}
use Rattle.export.specs.Code.Over.{is_over}
use Rattle.export.proofs.over.is_over.Goals as goal

pub returns-then-separator-count : goal.returns-then-separator-count
unfolding is_over
returns-then-separator-count c = rw (rw (c.digit_separator-separator.ensures, c.format_in-format.ensures, c.from-own.ensures) at c.if-separator-count.true)

pub returns-then-not-internal : goal.returns-then-not-internal
unfolding is_over
returns-then-not-internal c = rw (rw (c.digit_separator-separator.ensures, c.format_in-format.ensures, c.from-own.ensures) at c.if-separator-count.false, rw (c.has_internal-internal.ensures, c.format_in-format.ensures) at c.if-not-internal.true)

pub returns-then-s-next : goal.returns-then-s-next
unfolding is_over
returns-then-s-next c = rw (rw (c.digit_separator-separator.ensures, c.format_in-format.ensures, c.from-own.ensures) at c.if-separator-count.false, rw (c.has_internal-internal.ensures, c.format_in-format.ensures) at c.if-not-internal.false, le-leb _ _ c.if-s-next.true)

pub returns-then-double : goal.returns-then-double
unfolding is_over
returns-then-double c = rw (rw (c.digit_separator-separator.ensures, c.format_in-format.ensures, c.from-own.ensures) at c.if-separator-count.false, rw (c.has_internal-internal.ensures, c.format_in-format.ensures) at c.if-not-internal.false, lt-leb _ _ c.if-s-next.false, eq-eqb _ _ (rw (c.digit_separator-separator.ensures, c.format_in-format.ensures) at c.if-double.true))

pub returns : goal.returns
unfolding is_over
returns c =
    rw (rw (c.digit_separator-separator.ensures, c.format_in-format.ensures, c.from-own.ensures) at c.if-separator-count.false, rw (c.has_internal-internal.ensures, c.format_in-format.ensures) at c.if-not-internal.false, lt-leb _ _ c.if-s-next.false, ne_eqb _ _ (rw (c.digit_separator-separator.ensures, c.format_in-format.ensures) at c.if-double.false))
    (c.char_is_digit_by_range.ensures ∙ rw (c.mantissa_radix_byte.ensures, c.format_in-format.ensures))

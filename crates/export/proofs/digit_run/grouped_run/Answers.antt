-- `export::digit_run::grouped_run` meets its contract: at every turn its numbers are those of a digit run (GroupedRuns). Assumes nothing.
use Rattle.std.specs.Prelude.{◌≡◌, Bool, true, false, cond, Option, Some, None, IfSome}
use mathlib.Core.Path.{◌∙◌, refl, sym}
use native.Mathlib.Omega.{arith}
use borrow.Author.Tests.{eqb-false, not-false}
use Rattle.export.specs.declared.digit_run.GroupedRun.{GroupedRun}
use Rattle.export.proofs.Booleans.{left_fails, right_fails}
use Rattle.export.proofs.digit_run.GroupedRuns.{is_figure, grouped_starts, grouped_digit, grouped_passes, grouped_stops, grouped_out}
use Rattle.export.proofs.digit_run.grouped_run.Goals as goal

-- what is grouped has what holds of it where there is a digit
if_grouped : (none : Bool) (o : Option GroupedRun) (run : GroupedRun) (Holds : GroupedRun → Type 0)
    → o ≡ cond none None (Some run) → (none ≡ false → Holds run) → IfSome o Holds
if_grouped true o run Holds is holds = rw is tt
if_grouped false o run Holds is holds = rw is (holds refl)

pub loop-at-init : goal.loop-at-init
loop-at-init c =
    let a = c.args in
    (omega arith, omega arith, λ x f r b. grouped_starts a.separator a.s.now x f r b)

pub loop-at-preserved-then-b-separator : goal.loop-at-preserved-then-b-separator
loop-at-preserved-then-b-separator c =
    let a = c.args in
    let i = c.loop-at.invariant in
    let inside = c.loop-at-test.true in
    let more = c.if-s-n.false in
    let begun = c.if-early.false in
    let plain = c.if-double-before_digit.false in
    (omega (arith, more), omega (arith, i.1, begun), λ x f r b. grouped_passes a.separator a.s.now x f r b c.loop-at.at c.loop-at.value c.loop-at.passed i.1 (i.2 x f r b) inside c.if-b-separator.true more (eqb-false _ _ (left_fails _ _ plain)) (sym c.char_is_digit_by_range-before_digit.ensures ∙ not-false _ (right_fails _ _ plain)) begun)

pub returns-then-not-figure : goal.returns-then-not-figure
returns-then-not-figure c =
    let a = c.args in
    let i = c.loop-at.invariant in
    if_grouped _ c.grouped.result _ _ c.grouped.ensures
    (λ more x f r b. grouped_stops a.separator a.s.now x f r b c.loop-at.at c.loop-at.value c.loop-at.passed i.1 (i.2 x f r b) (eqb-false _ _ more) c.loop-at-test.true c.if-b-separator.false (sym c.char_is_digit_by_range-figure.ensures ∙ c.if-not-figure.true))

pub with_figure-value-requires : goal.with_figure-value-requires
with_figure-value-requires c =
    let a = c.args in
    let i = c.loop-at.invariant in
    (omega (arith, c.if-value-ge-LARGE.false), is_figure _ (sym c.char_is_digit_by_range-figure.ensures ∙ c.if-not-figure.false))

pub loop-at-preserved : goal.loop-at-preserved
loop-at-preserved c =
    let a = c.args in
    let i = c.loop-at.invariant in
    let inside = c.loop-at-test.true in
    let digit = sym c.char_is_digit_by_range-figure.ensures ∙ c.if-not-figure.false in
    (omega (arith, inside), omega (arith, i.1), λ x f r b. grouped_digit a.separator a.s.now x f r b c.loop-at.at c.loop-at.value c.loop-at.passed i.1 (i.2 x f r b) inside c.if-b-separator.false digit _ c.with_figure-value.ensures (omega arith))

pub returns : goal.returns
returns c =
    let a = c.args in
    let i = c.loop-at.invariant in
    if_grouped _ c.grouped-2.result _ _ c.grouped-2.ensures
    (λ more x f r b. grouped_out a.separator a.s.now x f r b c.loop-at.at c.loop-at.value c.loop-at.passed i.1 (i.2 x f r b) (eqb-false _ _ more) c.loop-at-test.false)

-- `export::spaced::spaced_cell` meets its contract: at every turn its numbers are those of the takes. Assumes nothing.
use mathlib.Core.Path.{◌≡◌, sym, ◌∙◌, ap}
use mathlib.Core.Bool.{Bool, true, false, cond}
use Prim.Native.Nat.{ℕ, ◌+◌, ◌≤◌}
use native.Mathlib.Omega.{arith}
use lib.ListN.{length, get_or}
use Rattle.word.specs.Digit.{is_digit}
use Rattle.reader.specs.declared.search.RunSearch.{RunSearch}
use Rattle.reader.proofs.passing.RefusedRuns.{goes_on}
use Rattle.export.proofs.next_all.GroupedCells.{grouped_starts, grouped_on, spaced_over, grouped_out}
use Rattle.export.proofs.spaced.spaced_cell.Goals as goal

at_most : (t : Bool) (n : ℕ) → cond t (n + 1) n ≤ n + 1
at_most true n = omega arith
at_most false n = omega arith

pub loop-at-init : goal.loop-at-init
loop-at-init c =
    let a = c.args in
    (omega arith, omega arith, omega arith, λ x f r b together. grouped_starts a.separator a.radix a.s.now x f r b)

pub loop-at-preserved-then-b-separator : goal.loop-at-preserved-then-b-separator
loop-at-preserved-then-b-separator c =
    let a = c.args in
    let inside = c.loop-at-test.true in
    let i = c.loop-at.invariant in
    let counted : c.count_past-count.result ≤ c.loop-at.count + 1 = rw c.count_past-count.ensures (at_most (is_digit (get_or a.s.now c.loop-at.at 0) a.radix) c.loop-at.count) in
    (omega (arith, inside), omega (arith, counted, i.1), omega (arith, i.2), λ x f r b together. rw c.count_past-count.ensures (grouped_on a.separator a.radix a.s.now x f r b c.loop-at.at c.loop-at.count c.loop-at.passed (i.3 x f r b together) inside c.if-b-separator.true))

pub loop-at-preserved : goal.loop-at-preserved
loop-at-preserved c =
    let a = c.args in
    let i = c.loop-at.invariant in
    let inside = c.loop-at-test.true in
    let more = c.if-s-end.false in
    let ends = ap (λ (f : RunSearch). f.end) c.search_run-end.ensures in
    let past = goes_on a.separator true a.s.now c.loop-at.at inside c.requires c.if-b-separator.false _ ends in
    (omega (arith, more), omega (arith, i.1, past), omega (arith, i.2, past), λ x f r b together. spaced_over a.separator a.radix a.s.now x f r b c.loop-at.at c.loop-at.count c.loop-at.passed (i.3 x f r b together) together inside c.if-b-separator.false _ ends more (sym c.char_is_digit_by_range-before_digit.ensures ∙ c.if-not-before_digit.false) c.if-early.false)

pub returns : goal.returns
returns c =
    let a = c.args in
    let i = c.loop-at.invariant in
    let same : c.loop-at.at ≡ length a.s.now = omega (arith, i.0, c.loop-at-test.false) in
    (omega (arith, i.2, i.0), λ x f r b together. grouped_out a.separator a.radix a.s.now x f r b c.loop-at.at c.loop-at.count c.loop-at.passed (i.3 x f r b together) same)

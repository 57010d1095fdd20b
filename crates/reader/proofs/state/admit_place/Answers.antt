-- `reader::state::admit_place` meets its contract, test by test. Assumes nothing.
use Rattle.std.proofs.Common.{sym, ◌∙◌, le-leb}
use borrow.Author.Tests.{lt-leb}
use Rattle.reader.specs.Calls.{place_refusal}
use Rattle.reader.proofs.state.admit_place.Goals as goal

pub returns-then-s-state : goal.returns-then-s-state
unfolding place_refusal
returns-then-s-state c = rw (lt-leb _ _ c.if-s-state.true)

pub returns-then-not-counts_fit : goal.returns-then-not-counts_fit
unfolding place_refusal
returns-then-not-counts_fit c =
    let fails = sym c.counts_fit.ensures ∙ c.if-not-counts_fit.true in
    rw (le-leb _ _ c.if-s-state.false, fails)

pub returns : goal.returns
unfolding place_refusal
returns c =
    let holds = sym c.counts_fit.ensures ∙ c.if-not-counts_fit.false in
    rw (le-leb _ _ c.if-s-state.false, holds)

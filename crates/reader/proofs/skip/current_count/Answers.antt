-- `reader::skip::current_count` meets its contract. Assumes nothing.
use Rattle.std.proofs.Common.{◌≡◌, sym, ap, ◌∙◌, arith}
use Rattle.reader.specs.Answer.{count_outcome_of}
use Rattle.reader.specs.Calls.{current_count_of, place_refusal}
use Rattle.reader.proofs.state.Refusals.{place_within, passed_on, count_refused}
use Rattle.reader.specs.Reading.{reading_for}
use Rattle.reader.proofs.skip.current_count.Goals as goal

pub shown_count-requires : goal.shown_count-requires
shown_count-requires c =
    let a = c.args in
    let bounds = place_within a.s.now a.state (sym c.in_ok-admit_place.ensures) in
    omega (arith, bounds.0, bounds.1)

pub returns : goal.returns
unfolding current_count_of
returns c =
    let a = c.args in
    let clear : place_refusal a.s.now a.state ≡ 0 = sym c.in_ok-admit_place.ensures in
    rw (clear, c.shown_count.ensures, c.syntax_for.ensures)

pub returns-in_err-admit_place : goal.returns-in_err-admit_place
returns-in_err-admit_place c =
    let a = c.args in
    ap count_outcome_of (passed_on _ _ c.from_residual.ensures.1)
    ∙ count_refused (reading_for a.state a.reader) a.s.now a.state a.reader _ c.in_err-admit_place.ensures

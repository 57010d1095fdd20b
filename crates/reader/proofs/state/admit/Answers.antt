-- `reader::state::admit` meets its contract, test by test. Assumes nothing.
use Rattle.std.proofs.Common.{sym, ap, ◌∙◌}
use Rattle.reader.specs.Answer.{refusal_in}
use Rattle.reader.proofs.state.Refusals.{passed_on, no_place, then_flags}
use Rattle.reader.proofs.state.admit.Goals as goal

pub returns-in_err-admit_place : goal.returns-in_err-admit_place
returns-in_err-admit_place c =
    let a = c.args in
    ap refusal_in (passed_on _ _ c.from_residual.ensures.1) ∙ no_place a.flags a.s.now a.state a.reader _ c.in_err-admit_place.ensures

pub returns : goal.returns
returns c =
    let a = c.args in
    then_flags a.flags a.s.now a.state a.reader (sym c.in_ok-admit_place.ensures) _ c.admit_flags.ensures

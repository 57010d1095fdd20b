-- `reader::state::admit_skip` meets its contract, test by test. Assumes nothing.
use Rattle.std.proofs.Common.{sym, ap, ◌∙◌}
use Rattle.reader.specs.Answer.{refusal_in}
use Rattle.reader.proofs.state.Refusals.{passed_on, no_place_for_skip, not_counted, then_both}
use Rattle.reader.proofs.state.admit_skip.Goals as goal

pub returns-in_err-admit_place : goal.returns-in_err-admit_place
returns-in_err-admit_place c =
    let a = c.args in
    ap refusal_in (passed_on _ _ c.from_residual.ensures.1) ∙ no_place_for_skip a.flags a.s.now a.state a.reader _ c.in_err-admit_place.ensures

pub returns-in_err-admit_reader : goal.returns-in_err-admit_reader
returns-in_err-admit_reader c =
    let a = c.args in
    ap refusal_in (passed_on _ _ c.from_residual-in_err-admit_reader.ensures.1)
    ∙ not_counted a.flags a.s.now a.state a.reader (sym c.in_ok-admit_place.ensures) _ c.in_err-admit_reader.ensures

pub returns : goal.returns
returns c =
    let a = c.args in
    then_both a.flags a.s.now a.state a.reader (sym c.in_ok-admit_place.ensures) (sym c.in_ok-admit_reader.ensures) _ c.admit_flags.ensures

-- `reader::skip::look` meets its contract: refusals first, then the look. Assumes nothing.
use Rattle.std.proofs.Common.{sym, ap, ◌∙◌}
use Rattle.reader.specs.Code.Looks.{look_outcome}
use Rattle.reader.specs.Reading.{reading_with}
use Rattle.reader.proofs.state.Refusals.{passed_on, within, peek_admitted, peek_refused}
use Rattle.reader.proofs.skip.look.Goals as goal

pub look_past-requires : goal.look_past-requires
look_past-requires c =
    let a = c.args in
    let bounds = within a.syntax.flags a.s.now a.state a.reader (sym c.in_ok-admit.ensures) in
    (bounds.0, bounds.1)

pub returns : goal.returns
unfolding reading_with
returns c =
    let a = c.args in record {
      outcome = c.look_past.ensures.outcome ∙ sym (peek_admitted (reading_with a.syntax) a.s.now a.state a.reader (sym c.in_ok-admit.ensures));
      fits = c.look_past.ensures.fits;
    }

pub returns-in_err-admit : goal.returns-in_err-admit
unfolding reading_with
returns-in_err-admit c =
    let a = c.args in
    let same = passed_on _ _ c.from_residual.ensures.1 in record {
      outcome = ap (look_outcome a.state) same ∙ sym (peek_refused (reading_with a.syntax) a.s.now a.state a.reader _ c.in_err-admit.ensures);
      fits = rw same tt;
    }

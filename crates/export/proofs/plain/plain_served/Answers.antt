-- `export::plain::plain_served` meets its contract. Assumes nothing.
use Rattle.std.proofs.Common.{refl, sym, ◌∙◌}
use Rattle.reader.proofs.state.Readers.{named, unnamed}
use Rattle.reader.specs.Plain.{plain_outcome_of}
use Rattle.export.specs.Plain.{plain_refused}
use Rattle.export.proofs.plain.plain_served.Goals as goal

pub returns-in-Ok : goal.returns-in-Ok
returns-in-Ok g c =
    let e = named _ _ _ (sym c.in-Ok.is ∙ c.try_from-by.ensures) in
    let put = c.put_plain.ensures in
    record {
      outcome = plain_outcome_of c.call.result;
      by = rw e (c.call.result, c.call.ensures, refl);
      returned = put.number;
      moved = put.moved;
      written = put.written;
    }

pub returns-in-Err : goal.returns-in-Err
returns-in-Err g c =
    let e = unnamed _ _ _ (sym c.in-Err.is ∙ c.try_from-by.ensures) in
    record {
      outcome = plain_refused 19 c.args.cursor.now;
      by = rw e refl;
      returned = c.number.ensures;
      moved = refl;
      written = c.answer_none.ensures.written;
    }

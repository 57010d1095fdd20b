-- `export::count::pawhetino_current_count` meets its contract. Assumes nothing.
use Rattle.std.proofs.Common.{refl, sym, ◌∙◌}
use Rattle.export.specs.Calls.{counted_for}
use Rattle.reader.proofs.state.Readers.{named, unnamed}
use Rattle.export.proofs.count.pawhetino_current_count.Goals as goal

pub returns-in-Ok-current_count : goal.returns-in-Ok-current_count
unfolding counted_for
returns-in-Ok-current_count c =
    let e = named _ _ _ (sym c.in-Ok.is ∙ c.reader_on-by.ensures) in
    rw (e, ← rw c.state_in.ensures at c.in-Ok-current_count.ensures) (record {
      number = refl;
      written = refl;
    })

pub returns-in-Err-current_count : goal.returns-in-Err-current_count
unfolding counted_for
returns-in-Err-current_count c =
    let e = named _ _ _ (sym c.in-Ok.is ∙ c.reader_on-by.ensures) in
    rw (e, ← rw c.state_in.ensures at c.in-Err-current_count.ensures) (record {
      number = c.number.ensures;
      written = refl;
    })

pub returns-in-Err : goal.returns-in-Err
unfolding counted_for
returns-in-Err c =
    let e = unnamed _ _ _ (sym c.in-Err.is ∙ c.reader_on-by.ensures) in
    rw e (record {
      number = c.number-in-Err.ensures;
      written = refl;
    })

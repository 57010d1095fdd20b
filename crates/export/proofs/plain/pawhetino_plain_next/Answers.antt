-- `export::plain::pawhetino_plain_next` meets its contract. Assumes nothing.
use Rattle.std.proofs.Common.{rules}
use Rattle.export.specs.Plain.{plain_taken_by}
use Rattle.export.proofs.plain.Words.{plain_served_as}
use Rattle.export.proofs.plain.pawhetino_plain_next.Goals as goal

pub returns : goal.returns
unfolding plain_taken_by
returns c =
    let a = c.args in
    plain_served_as a.reader a.cursor.now a.answer.now _ c.plain_served.ensures (λ r x says. search rules)

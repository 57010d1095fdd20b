-- `export::plain::pawhetino_plain_peek` meets its contract. Assumes nothing.
use Rattle.std.proofs.Common.{rules}
use Rattle.export.specs.Plain.{plain_peeked_by}
use Rattle.export.proofs.plain.Words.{plain_served_as}
use Rattle.export.proofs.plain.pawhetino_plain_peek.Goals as goal

pub returns : goal.returns
unfolding plain_peeked_by
returns c =
    let a = c.args in
    plain_served_as a.reader a.cursor.now a.answer.now _ c.plain_served.ensures (λ r x says. search rules)

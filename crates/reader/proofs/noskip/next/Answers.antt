-- `reader::noskip::next` meets its contract. Assumes nothing.
use Rattle.std.proofs.Common.{Some, None, Ok, Err, refl, arith}
use Rattle.reader.proofs.noskip.Cases.{room, taken, stays}
use Rattle.reader.proofs.noskip.next.Goals as goal

pub overflow_add-past : goal.overflow_add-past
overflow_add-past c =
    let a = c.args in
    let fits = room a.s.now a.cursor.cursor (Ok (Some c.in-Ok-Some.b)) (rw c.in-Ok-Some.field-0-is at c.in-Ok-Some.ensures) in
    omega (arith, fits)

pub returns-in-Ok-Some : goal.returns-in-Ok-Some
returns-in-Ok-Some c = let a = c.args in taken a.s.now a.cursor.cursor (Ok (Some c.in-Ok-Some.b)) (rw c.in-Ok-Some.field-0-is at c.in-Ok-Some.ensures)

pub returns-in-Ok-None : goal.returns-in-Ok-None
returns-in-Ok-None c =
    let a = c.args in
    rw c.stayed.ensures (stays a.s.now a.cursor.cursor (Ok None) (rw c.in-Ok-None.field-0-is at c.in-Ok-None.ensures) refl)

pub returns-in-Err : goal.returns-in-Err
returns-in-Err c =
    let a = c.args in
    rw c.stayed-in-Err.ensures (stays a.s.now a.cursor.cursor (Err c.in-Err.error) c.in-Err.ensures refl)

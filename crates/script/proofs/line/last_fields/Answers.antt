-- `script::line::last_fields` meets its contract. Assumes nothing.
use mathlib.Core.Path.{refl}
use mathlib.Core.List.{append_assoc}
use Rattle.script.proofs.line.Writes.{wrote_then, wrote_as}
use Rattle.script.proofs.line.last_fields.Goals as goal

pub returns : goal.returns
returns c =
    wrote_as
    (wrote_then (wrote_then (wrote_then c.field-first.ensures.wrote c.field-second.ensures.wrote) c.field-third.ensures.wrote) c.put.ensures)
    (simp append_assoc)
    refl

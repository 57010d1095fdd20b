-- `script::line::open_line` meets its contract. Assumes nothing.
use mathlib.Core.Path.{refl}
use native.Mathlib.Omega.{arith}
use Rattle.script.proofs.line.Decimals.{digit_alone}
use Rattle.script.proofs.line.Writes.{wrote_then, wrote_as}
use Rattle.script.proofs.line.open_line.Goals as goal

pub returns : goal.returns
returns c =
    wrote_as
    (wrote_then (wrote_then c.put-begun.ensures c.field-end.ensures.wrote) c.put.ensures)
    (rw (digit_alone 1 (omega arith)))
    refl

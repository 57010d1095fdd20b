-- `script::line::field` meets its contract. Assumes nothing.
use native.Mathlib.Omega.{arith}
use Rattle.script.proofs.line.Writes.{wrote_then}
use Rattle.script.proofs.line.field.Goals as goal

pub returns : goal.returns
returns c = record {
  wrote = wrote_then c.put-begun.ensures c.number.ensures.wrote;
  short = omega (arith, c.put-begun.ensures.place, c.number.ensures.short);
}

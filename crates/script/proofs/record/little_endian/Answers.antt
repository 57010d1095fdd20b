-- `script::record::little_endian` meets its contract: Numbers.antt has the loop's laws. Assumes nothing.
use native.Mathlib.Omega.{arith}
use Rattle.script.proofs.record.Numbers.{reading_room}
use Rattle.script.proofs.record.little_endian.Goals as goal

pub overflow_mul-number : goal.overflow_mul-number
overflow_mul-number c = omega (arith, reading_room _ _ c.loop-b.invariant c.in-Some.ensures.steps c.requires)

pub overflow_add-number : goal.overflow_add-number
overflow_add-number c = omega (arith, reading_room _ _ c.loop-b.invariant c.in-Some.ensures.steps c.requires)

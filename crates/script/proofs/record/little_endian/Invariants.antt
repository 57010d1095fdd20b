use Rattle.std.specs.Slice.Iter.{iter_rest}
use Rattle.std.specs.Iterator.Adapters.{rev_source}
use Rattle.script.proofs.record.Numbers.{Reading}
use Rattle.script.proofs.record.little_endian.Given as goal

abbrev pub invariant-loop-b : goal.invariant-loop-b
invariant-loop-b l = Reading l.bytes (iter_rest (rev_source l.b-iterator)) l.number

use mathlib.Core.Path.{◌≡◌}
use Prim.Native.Nat.{◌≤◌}
use lib.ListN.{length}
use Rattle.script.specs.Stream.{Ran}
use Rattle.script.proofs.take_turns.Given as goal

abbrev pub invariant-loop : goal.invariant-loop
invariant-loop l =
    (length l.buffer ≡ length l.initial.buffer) × (length l.out ≡ length l.initial.out) × (l.start.filled ≤ length l.buffer) × Ran l.counter l.start l.text l.buffer

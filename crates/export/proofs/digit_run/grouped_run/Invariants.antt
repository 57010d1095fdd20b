use mathlib.Core.Bool.{false}
use Prim.Native.Nat.{◌+◌, ◌-◌, ◌≤◌, min}
use lib.ListN.{length}
use Rattle.word.specs.declared.format_flags.Format.{Format}
use Rattle.reader.specs.declared.state.Reader.{Reader}
use Rattle.reader.specs.declared.passing.Syntax.{Syntax}
use Rattle.reader.specs.State.{fresh_of}
use Rattle.cells.proofs.digit_run.RunLoop.{Running}
use Rattle.export.specs.Code.GroupedCell.{Between}
use Rattle.export.proofs.digit_run.grouped_run.Given as goal

abbrev pub invariant-loop-at : goal.invariant-loop-at
invariant-loop-at l =
    (l.at ≤ length l.s) × (min l.at 1 + l.passed ≤ l.at)
    × ((x : Syntax) (f : Format) (r : Reader) → Between x l.separator 10 r → Running x l.s r (fresh_of f) l.at (l.at - l.passed) l.value (l.at - l.passed) l.passed false)

abbrev pub decreases-loop-at : goal.decreases-loop-at
decreases-loop-at l =
    length l.s - l.at

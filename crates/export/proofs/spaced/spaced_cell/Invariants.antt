use mathlib.Core.Path.{◌≡◌}
use mathlib.Core.Bool.{true}
use Prim.Native.Nat.{◌-◌, ◌≤◌}
use lib.ListN.{length}
use Rattle.word.specs.declared.format_flags.Format.{Format}
use Rattle.reader.specs.declared.state.Reader.{Reader}
use Rattle.reader.specs.declared.passing.Syntax.{Syntax}
use Rattle.reader.specs.Reading.{reading_with}
use Rattle.reader.specs.State.{fresh_of}
use Rattle.reader.proofs.skip.TakeLoop.{Running}
use Rattle.export.specs.Code.GroupedCell.{Between}
use Rattle.export.proofs.spaced.spaced_cell.Given as goal

abbrev pub invariant-loop-at : goal.invariant-loop-at
invariant-loop-at l =
    (l.at ≤ length l.s) × (l.count ≤ l.at) × (l.passed ≤ l.at)
    × ((x : Syntax) (f : Format) (r : Reader) → Between x l.separator l.radix r → x.flags.consecutive ≡ true → Running (reading_with x) l.s r (fresh_of f) l.at l.count l.passed)

abbrev pub decreases-loop-at : goal.decreases-loop-at
decreases-loop-at l = length l.s - l.at

use Rattle.reader.proofs.passing.Places.{place_after, Searching}
use Rattle.reader.proofs.passing.previous_other.Given as goal

abbrev pub invariant-loop-i : goal.invariant-loop-i
invariant-loop-i l = Searching l.byte l.s l.at l.i

abbrev pub decreases-loop-i : goal.decreases-loop-i
decreases-loop-i l = place_after l.i

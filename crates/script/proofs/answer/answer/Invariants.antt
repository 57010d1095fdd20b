use lib.ListN.{length}
use Rattle.script.proofs.answer.Records.{Answering}
use Rattle.script.proofs.answer.answer.Given as goal

abbrev pub invariant-loop-first : goal.invariant-loop-first
invariant-loop-first l =
    Answering l.initial.text l.initial.stage l.input l.ended l.initial.out l.text l.out l.stage l.rest l.end

abbrev pub decreases-loop-first : goal.decreases-loop-first
decreases-loop-first l = length l.rest

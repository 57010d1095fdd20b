use Rattle.std.proofs.Common.{◌-◌}
use Rattle.catalogue.specs.Block.{catalogue_in}
use Rattle.catalogue.specs.Code.Search.{Passed}
use Rattle.catalogue.proofs.search.place_of.Given as goal

abbrev pub invariant-loop-at : goal.invariant-loop-at
invariant-loop-at l = Passed (catalogue_in l.words) l.school l.at

abbrev pub decreases-loop-at : goal.decreases-loop-at
decreases-loop-at l = l.len - l.at

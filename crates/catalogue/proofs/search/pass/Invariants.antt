use Rattle.std.proofs.Common.{◌+◌}
use Rattle.catalogue.specs.Block.{catalogue_in}
use Rattle.catalogue.specs.Code.Search.{Passed}
use Rattle.catalogue.proofs.search.pass.Given as goal

abbrev pub invariant-loop-more : goal.invariant-loop-more
invariant-loop-more l = Passed (catalogue_in l.words) l.school (l.at + l.more)

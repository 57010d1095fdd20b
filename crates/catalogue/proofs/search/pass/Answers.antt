-- `catalogue::search::pass` meets its contract. Assumes nothing.
use Rattle.std.proofs.Common.{◌≡◌, ◌+◌, arith}
use Rattle.catalogue.specs.Block.{catalogue_in}
use Rattle.catalogue.proofs.entries.Words.{word_school}
use Rattle.catalogue.proofs.entries.Place.{passed_over, stops_here}
use Rattle.catalogue.proofs.search.pass.Goals as goal

pub returns-then-ends-clause-found : goal.returns-then-ends-clause-found
returns-then-ends-clause-found c less =
    stops_here (catalogue_in c.args.words.now) _ _ _ c.loop-more.invariant (omega arith) (word_school _ c.told-words _) (omega arith)

pub loop-more-preserved : goal.loop-more-preserved
loop-more-preserved c =
    let on : c.args.at + (c.loop-more.more + 1) ≡ c.args.at + c.loop-more.more + 1 = omega arith in
    rw on (passed_over (catalogue_in c.args.words.now) _ _ _ c.loop-more.invariant (omega arith) (word_school _ c.told-words _) (omega arith))

-- `catalogue::lookup::separators` meets its contract. Assumes nothing.
use Rattle.std.proofs.Common.{refl}
use Rattle.catalogue.specs.Block.{catalogue_in}
use Rattle.catalogue.proofs.lookup.separators.Goals as goal

pub returns : goal.returns
unfolding catalogue_in
returns c = refl

-- `catalogue::entries::listed` meets its contract. Assumes nothing.
use Rattle.std.proofs.Common.{arith}
use Rattle.catalogue.proofs.entries.Words.{listed_size}
use Rattle.catalogue.proofs.entries.listed.Goals as goal

pub returns : goal.returns
returns c = (omega (arith, listed_size c.args.words.now c.told-words), omega arith)

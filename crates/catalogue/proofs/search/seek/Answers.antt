-- `catalogue::search::seek` meets its contract. Assumes nothing.
use Rattle.std.proofs.Common.{arith}
use Rattle.catalogue.proofs.entries.Words.{word_school}
use Rattle.catalogue.proofs.entries.Place.{stands, stands_not, stands_last}
use Rattle.catalogue.proofs.search.seek.Goals as goal

pub returns-then-own : goal.returns-then-own
returns-then-own c = stands _ _ _ c.place_of-at.ensures.0 _ (omega arith) (word_school _ c.told-words _) c.if-own.true

pub returns-else-own : goal.returns-else-own
returns-else-own c = stands_not _ _ _ c.place_of-at.ensures.0 _ (omega arith) (word_school _ c.told-words _) c.if-own.false

pub returns-else-at-listed : goal.returns-else-at-listed
returns-else-at-listed c = stands_last _ _ _ c.place_of-at.ensures.0 (omega arith)

-- `catalogue::entries::entry_at` meets its contract. Assumes nothing.
use Rattle.catalogue.proofs.entries.Words.{word_school, word_lo, word_hi}
use Rattle.catalogue.proofs.entries.entry_at.Goals as goal

pub returns : goal.returns
returns c = rw (word_school _ c.told-words _, word_lo _ c.told-words _, word_hi _ c.told-words _)

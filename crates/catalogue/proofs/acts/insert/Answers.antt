-- `catalogue::acts::insert` meets its contract. Assumes nothing.
use Rattle.catalogue.proofs.acts.Inserting.{inserted_words}
use Rattle.catalogue.proofs.acts.insert.Goals as goal

pub returns : goal.returns
returns c =
    let pre = c.requires in
    inserted_words _ _ _ _ _ _ _ _ c.told-words c.listed-len.ensures.0 (rw c.listed-len.ensures.0 pre.0) pre.1.place (rw c.listed-len.ensures.0 pre.1.within) c.copy_within.ensures.after c.put_entry.ensures c.uses_separator-more.ensures.0 c.raise-tally.ensures

-- `catalogue::acts::take_out` meets its contract. Assumes nothing.
use Rattle.catalogue.proofs.acts.Removing.{removed_words}
use Rattle.catalogue.proofs.acts.take_out.Goals as goal

pub returns : goal.returns
returns c =
    let pre = c.requires in
    removed_words _ _ _ _ _ _ _ _ _ c.told-words c.listed-last.ensures.0 pre.place pre.listed c.copy_within.ensures.after c.put_entry.ensures c.entry_at-gone.ensures c.uses_separator-less.ensures.0 c.saturating_sub-tally.ensures

-- `catalogue::lookup::find` meets its contract. Assumes nothing.
use Rattle.std.proofs.Common.{Some, ◌∙◌, sym, ap, arith}
use Rattle.catalogue.specs.declared.entries.Entry.{Entry}
use Rattle.catalogue.specs.Catalogue.{word_in}
use Rattle.catalogue.specs.Block.{catalogue_in}
use Rattle.catalogue.proofs.entries.Words.{listed_size}
use Rattle.catalogue.proofs.entries.Place.{listed_word}
use Rattle.catalogue.proofs.lookup.find.Goals as goal

pub entry_at-requires : goal.entry_at-requires
entry_at-requires c = omega (arith, c.in-Ok.ensures.within, listed_size c.args.words.now c.told-words)

pub returns-in-Ok : goal.returns-in-Ok
returns-in-Ok c =
    let found = c.in-Ok.ensures in
    ap (λ (e : Entry). Some e.format) c.entry_at.ensures
    ∙ sym (listed_word (catalogue_in c.args.words.now) _ _ found.place found.listed)
    ∙ ap (word_in (catalogue_in c.args.words.now)) c.from.ensures

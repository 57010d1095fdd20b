-- `catalogue::lookup::entry` meets its contract. Assumes nothing.
use Rattle.std.proofs.Common.{Some, ◌∙◌, ap, arith}
use Rattle.catalogue.specs.Block.{catalogue_in}
use Rattle.catalogue.proofs.entries.Place.{row_listed, row_none}
use Rattle.catalogue.proofs.lookup.entry.Goals as goal

pub returns-then-i-len : goal.returns-then-i-len
returns-then-i-len c = ap Some c.entry_at.ensures ∙ row_listed (catalogue_in c.args.words.now) _ (omega arith)

pub returns : goal.returns
returns c = row_none (catalogue_in c.args.words.now) _ (omega arith)

-- `catalogue::acts::remove` meets its contract. Assumes nothing.
use Rattle.std.proofs.Common.{◌∙◌, sym, ap}
use Rattle.catalogue.specs.Catalogue.{remove_number, removed}
use Rattle.catalogue.specs.Block.{catalogue_in, words_of}
use Rattle.catalogue.proofs.acts.Answers.{removes, refused_remove_keeps}
use Rattle.catalogue.proofs.acts.remove.Goals as goal

pub returns-in-Ok : goal.returns-in-Ok
returns-in-Ok c = record {
  number = sym (removes _ _ c.in-Ok.ensures.listed) ∙ ap (remove_number (catalogue_in c.args.words.now)) c.from-school.ensures;
  written = c.take_out.ensures ∙ ap (λ n. words_of (removed (catalogue_in c.args.words.now) n)) c.from-school.ensures;
}

pub returns-in-Err : goal.returns-in-Err
returns-in-Err c =
    let kept = refused_remove_keeps c.args.words.now c.told-words _ c.in-Err.ensures.unlisted in record {
      number = kept.0 ∙ ap (remove_number (catalogue_in c.args.words.now)) c.from-school.ensures;
      written = kept.1 ∙ ap (λ n. words_of (removed (catalogue_in c.args.words.now) n)) c.from-school.ensures;
    }

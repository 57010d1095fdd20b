-- `catalogue::acts::add_checked` meets its contract. Assumes nothing.
use Rattle.std.proofs.Common.{◌∙◌, sym, ap, arith}
use Rattle.catalogue.specs.Block.{words_of, catalogue_in}
use Rattle.catalogue.proofs.acts.Answers.{refused_zero, refused_listed, refused_full, accepted, adds, refused_add_keeps}
use Rattle.catalogue.proofs.acts.add_checked.Goals as goal

pub returns-then-unnamed : goal.returns-then-unnamed
returns-then-unnamed c =
    let kept = refused_add_keeps c.args.words.now c.told-words c.args.school c.args.format _ (refused_zero _ _ _ c.requires c.if-unnamed.true) in
    record { number = kept.0; written = kept.1 }

pub returns-in-Ok : goal.returns-in-Ok
returns-in-Ok c =
    let kept = refused_add_keeps c.args.words.now c.told-words c.args.school c.args.format _ (refused_listed _ _ _ c.requires c.if-unnamed.false c.in-Ok.ensures.listed) in
    record { number = kept.0; written = kept.1 }

pub returns-then-room : goal.returns-then-room
returns-then-room c =
    let number = accepted (catalogue_in c.args.words.now) _ _ c.requires c.if-unnamed.false c.in-Err.ensures.unlisted (omega arith) in record {
      number = sym number;
      written = c.insert.ensures ∙ ap words_of (sym (adds (catalogue_in c.args.words.now) _ _ number));
    }

pub returns-else-room : goal.returns-else-room
returns-else-room c =
    let kept = refused_add_keeps c.args.words.now c.told-words c.args.school c.args.format _ (refused_full _ _ _ c.requires c.if-unnamed.false c.in-Err.ensures.unlisted (omega arith)) in
    record { number = kept.0; written = kept.1 }

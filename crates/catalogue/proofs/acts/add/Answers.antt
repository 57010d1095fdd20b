-- `catalogue::acts::add` meets its contract. Assumes nothing.
use Rattle.std.proofs.Common.{◌∙◌, sym}
use Rattle.catalogue.proofs.acts.Answers.{refused-word, told_word, refused_add_words}
use Rattle.catalogue.proofs.acts.add.Goals as goal

pub returns-in_err-check : goal.returns-in_err-check
returns-in_err-check c =
    let fault = c.in_err-check.ensures in
    let number = refused-word _ c.args.school _ fault.1 in record {
      number = told_word _ _ c.from_residual.ensures.1 ∙ fault.0 ∙ sym number;
      written = refused_add_words _ c.told-words _ _ (λ z. fault.1 (sym number ∙ z));
    }

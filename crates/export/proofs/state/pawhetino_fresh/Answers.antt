-- `export::state::pawhetino_fresh` meets its contract. Assumes nothing.
use mathlib.Core.Path.{refl, ◌∙◌}
use borrow.Author.Tests.{eq-eqb, ne_eqb}
use Rattle.export.specs.State.{fresh_number, fresh_words}
use Rattle.export.proofs.state.Opening.{fresh_number_lem, fresh_state, refused_number_lem, refused_not_zero}
use Rattle.export.proofs.state.pawhetino_fresh.Goals as goal

pub returns-then-edition-ne0 : goal.returns-then-edition-ne0
unfolding fresh_number fresh_words
returns-then-edition-ne0 c = rw (ne_eqb _ _ c.if-edition-ne0.true) (record {
  number = refl;
  written = refl;
})

pub returns-in-Ok : goal.returns-in-Ok
unfolding fresh_number fresh_words
returns-in-Ok c =
    let found = c.open-opened.ensures in
    let is = c.in-Ok.is in
    rw (eq-eqb _ _ c.if-edition-ne0.false, fresh_number_lem _ _ _ found _ is, c.put_words.ensures, fresh_state _ _ _ found _ is) (record {
      number = refl;
      written = refl;
    })

pub returns-in-Err : goal.returns-in-Err
unfolding fresh_number fresh_words
returns-in-Err c =
    let found = c.open-opened.ensures in
    let is = c.in-Err.is in
    rw (eq-eqb _ _ c.if-edition-ne0.false, refused_not_zero _ _ _ found _ is) (record {
      number = c.number.ensures ∙ refused_number_lem _ _ _ found _ is;
      written = refl;
    })

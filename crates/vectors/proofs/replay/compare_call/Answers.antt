-- `vectors::replay::compare_call` meets its contract. Assumes nothing.
use mathlib.Core.Path.{◌∙◌, ap}
use borrow.Author.Tests.{eq-eqb, ne_eqb}
use Rattle.vectors.specs.declared.replay.Answer.TheVariants.{Call}
use Rattle.vectors.specs.Replay.{value, beside, call_verdict}
use Rattle.vectors.proofs.replay.compare_call.Goals as goal

pub returns-then-parsed-ne-CALL_SHAPE : goal.returns-then-parsed-ne-CALL_SHAPE
unfolding call_verdict
returns-then-parsed-ne-CALL_SHAPE c = rw (ne_eqb _ _ c.if-parsed-ne-CALL_SHAPE.true)

pub returns : goal.returns
unfolding call_verdict
returns c =
    let p = c.args.parsed in
    rw (eq-eqb _ _ c.if-parsed-ne-CALL_SHAPE.false)
    (c.beside.ensures ∙ ap (beside Call (value p 4)) c.repeat-repeated.ensures)

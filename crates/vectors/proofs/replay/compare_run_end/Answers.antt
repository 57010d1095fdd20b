-- `vectors::replay::compare_run_end` meets its contract. Assumes nothing.
use mathlib.Core.Path.{◌∙◌, ap}
use borrow.Author.Tests.{eq-eqb, ne_eqb}
use Rattle.vectors.specs.declared.replay.Answer.TheVariants.{RunEnd}
use Rattle.vectors.specs.Replay.{value, beside, run_end_verdict}
use Rattle.vectors.proofs.replay.compare_run_end.Goals as goal

pub returns-then-parsed-ne-RUN_END_SHAPE : goal.returns-then-parsed-ne-RUN_END_SHAPE
unfolding run_end_verdict
returns-then-parsed-ne-RUN_END_SHAPE c = rw (ne_eqb _ _ c.if-parsed-ne-RUN_END_SHAPE.true)

pub returns : goal.returns
unfolding run_end_verdict
returns c =
    let p = c.args.parsed in
    rw (eq-eqb _ _ c.if-parsed-ne-RUN_END_SHAPE.false)
    (c.beside.ensures ∙ ap (beside RunEnd (value p 6)) c.search_again-repeated.ensures)

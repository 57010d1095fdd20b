-- `vectors::replay::compare_word` meets its contract. Assumes nothing.
use borrow.Author.Tests.{eq-eqb, ne_eqb}
use Rattle.vectors.specs.Replay.{word_verdict}
use Rattle.vectors.proofs.replay.compare_word.Goals as goal

pub returns-then-parsed-ne-WORD_SHAPE : goal.returns-then-parsed-ne-WORD_SHAPE
unfolding word_verdict
returns-then-parsed-ne-WORD_SHAPE c = rw (ne_eqb _ _ c.if-parsed-ne-WORD_SHAPE.true)

pub returns : goal.returns
unfolding word_verdict
returns c = rw (eq-eqb _ _ c.if-parsed-ne-WORD_SHAPE.false) (cc)

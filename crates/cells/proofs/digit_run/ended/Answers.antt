-- `cells::digit_run::ended` meets its contract. Assumes nothing.
use Rattle.std.proofs.Common.{eq-eqb, ne_eqb}
use Rattle.cells.proofs.digit_run.ended.Goals as goal

pub returns-then-taken-eq0 : goal.returns-then-taken-eq0
returns-then-taken-eq0 c =
    rw (c.refused.ensures, eq-eqb _ _ c.if-taken-eq0.true)

pub returns : goal.returns
returns c =
    rw (c.new.ensures, ne_eqb _ _ c.if-taken-eq0.false)

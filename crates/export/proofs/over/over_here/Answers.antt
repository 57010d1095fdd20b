-- `export::over::over_here` meets its contract. Assumes nothing.
use mathlib.Core.Path.{◌∙◌, sym}
use Rattle.export.proofs.over.Steps.{more}
use Rattle.export.proofs.over.over_here.Goals as goal

pub bounds-s-next : goal.bounds-s-next
bounds-s-next c = let a = c.args in more a.reader a.state.now a.s.now (sym c.is_over-over.ensures ∙ c.if-not-over.false)

-- `reader::iterator::admit_run` meets its contract: the flags are those that the state gives the reader. Assumes nothing.
use Rattle.std.proofs.Common.{ap, ◌∙◌}
use Rattle.reader.specs.declared.passing.Syntax.{Syntax}
use Rattle.reader.specs.ZeroSkip.{skip_refusal}
use Rattle.reader.proofs.iterator.admit_run.Goals as goal

pub returns : goal.returns
returns c =
    let a = c.args in
    c.admit_skip.ensures ∙ ap (λ (y : Syntax). skip_refusal y.flags a.s.now a.state a.reader) c.syntax_for-own.ensures

-- `reader::iterator::skip_zeros` meets its contract: the word's syntax is read once. Assumes nothing.
use Rattle.std.proofs.Common.{ap, ◌∙◌}
use Rattle.reader.specs.declared.passing.Syntax.{Syntax}
use Rattle.reader.specs.Reading.{reading_with}
use Rattle.reader.specs.ZeroSkip.{skip_zeros_of}
use Rattle.reader.proofs.iterator.skip_zeros.Goals as goal

pub returns : goal.returns
returns c =
    let a = c.args in
    c.skip_zeros_in.ensures ∙ ap (λ (y : Syntax). skip_zeros_of (reading_with y) a.s.now a.state a.reader) c.syntax_for-syntax.ensures

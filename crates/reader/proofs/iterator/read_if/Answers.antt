-- `reader::iterator::read_if` meets its contract: the word's syntax is read once. Assumes nothing.
use Rattle.std.proofs.Common.{ap, ◌∙◌}
use Rattle.word.specs.ByteSet.{member}
use Rattle.reader.specs.declared.passing.Syntax.{Syntax}
use Rattle.reader.specs.Reading.{reading_with}
use Rattle.reader.specs.Calls.{read_of}
use Rattle.reader.proofs.iterator.read_if.Goals as goal

pub returns : goal.returns
returns c =
    let a = c.args in
    c.read_in.ensures ∙ ap (λ (y : Syntax). read_of (reading_with y) a.s.now a.state a.reader (member a.wanted)) c.syntax_for-syntax.ensures

-- `reader::skip::peek` meets its contract: the word's syntax is read once. Assumes nothing.
use Rattle.std.proofs.Common.{ap, ◌∙◌}
use Rattle.reader.specs.declared.passing.Syntax.{Syntax}
use Rattle.reader.specs.Reading.{reading_with}
use Rattle.reader.specs.Calls.{peek_of}
use Rattle.reader.proofs.skip.peek.Goals as goal

pub returns : goal.returns
returns c =
    let a = c.args in
    c.peek_in.ensures ∙ ap (λ (y : Syntax). peek_of (reading_with y) a.s.now a.state a.reader) c.syntax_for-syntax.ensures

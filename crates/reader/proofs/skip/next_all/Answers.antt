-- `reader::skip::next_all` meets its contract: the word's syntax is read once. Assumes nothing.
use Rattle.std.proofs.Common.{ap, ◌∙◌}
use Rattle.reader.specs.declared.passing.Syntax.{Syntax}
use Rattle.reader.specs.Reading.{reading_with}
use Rattle.reader.specs.Calls.{next_all_of}
use Rattle.reader.proofs.skip.next_all.Goals as goal

pub returns : goal.returns
returns c =
    let a = c.args in
    c.next_all_in.ensures ∙ ap (λ (y : Syntax). next_all_of (reading_with y) a.s.now a.state a.reader) c.syntax_for-syntax.ensures

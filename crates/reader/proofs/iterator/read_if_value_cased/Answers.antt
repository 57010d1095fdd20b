-- `reader::iterator::read_if_value_cased` meets its contract: the set of one byte has that byte alone. Assumes nothing.
use Rattle.std.proofs.Common.{eqb, ◌∙◌, arith}
use Rattle.word.specs.ByteSet.{member}
use Rattle.reader.specs.Reading.{reading_for}
use Rattle.reader.proofs.iterator.ConditionalReads.{reads_alike}
use Rattle.reader.proofs.iterator.read_if_value_cased.Goals as goal

pub returns : goal.returns
returns c =
    let a = c.args in
    c.read_if.ensures
    ∙ reads_alike a.s.now (λ i h. omega (arith, c.type_inv.s i)) (member c.from-wanted.result) (λ x. eqb x a.value) c.from-wanted.ensures
    (reading_for a.state a.reader) a.state a.reader

-- `reader::passing::previous_neighbour` meets its contract. Assumes nothing.
use Rattle.std.proofs.Common.{arith}
use Rattle.reader.specs.Place.{before}
use Rattle.reader.specs.Reading.{syntax_in}
use Rattle.reader.proofs.passing.Places.{byte_before}
use Rattle.reader.proofs.passing.Landings.{unwanted, nearest_other, nearest_byte}
use Rattle.reader.proofs.passing.previous_neighbour.Goals as goal

pub returns-then-not-wanted : goal.returns-then-not-wanted
returns-then-not-wanted c =
    let a = c.args in
    unwanted (syntax_in a.separated) a.wanted (before a.s.now a.at) _ c.if-not-wanted.true (c.absent.ensures (syntax_in a.separated))

pub returns-then-separated : goal.returns-then-separated
returns-then-separated c =
    let a = c.args in
    nearest_other (syntax_in a.separated) a.wanted (before a.s.now a.at) _ _
    c.if-not-wanted.false
    (rw c.syntax.ensures at c.neighbour_at.ensures)
    c.if-separated.true
    c.previous_other-other.ensures

pub returns : goal.returns
returns c =
    let a = c.args in
    nearest_byte (syntax_in a.separated) a.wanted (before a.s.now a.at) _ _
    c.if-not-wanted.false
    (rw c.syntax-2.ensures at c.neighbour_at-2.ensures)
    c.if-separated.false
    (byte_before a.s.now a.at _ (omega arith) (omega arith) c.index_before-i.ensures)

-- `reader::passing::next_neighbour` meets its contract. Assumes nothing.
use Rattle.std.proofs.Common.{◌+◌, add-one}
use Rattle.reader.specs.Place.{after}
use Rattle.reader.specs.Reading.{syntax_in}
use Rattle.reader.proofs.passing.Places.{run_byte}
use Rattle.reader.proofs.passing.Landings.{unwanted, nearest_other, nearest_byte}
use Rattle.reader.proofs.passing.next_neighbour.Goals as goal

pub returns-then-not-wanted : goal.returns-then-not-wanted
returns-then-not-wanted c =
    let a = c.args in
    unwanted (syntax_in a.separated) a.wanted (after a.s.now a.at) _ c.if-not-wanted.true (c.absent.ensures (syntax_in a.separated))

pub returns-then-separated : goal.returns-then-separated
returns-then-separated c =
    let a = c.args in
    nearest_other (syntax_in a.separated) a.wanted (after a.s.now a.at) _ _
    c.if-not-wanted.false
    (rw c.syntax.ensures at c.neighbour_at.ensures)
    c.if-separated.true
    (rw (c.run_end-other.ensures.0, ← add-one a.at) (run_byte a.separated.separator.value a.s.now (a.at + 1)))

pub returns : goal.returns
returns c =
    let a = c.args in
    nearest_byte (syntax_in a.separated) a.wanted (after a.s.now a.at) _ _
    c.if-not-wanted.false
    (rw c.syntax-2.ensures at c.neighbour_at-2.ensures)
    c.if-separated.false
    (rw add-one)

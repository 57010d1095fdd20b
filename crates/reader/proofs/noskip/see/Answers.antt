-- `reader::noskip::see` meets its contract. Assumes nothing.
use Rattle.std.proofs.Common.{◌∙◌}
use Rattle.reader.proofs.passing.Places.{byte_got}
use Rattle.reader.proofs.noskip.Cases.{past_end, within}
use Rattle.reader.proofs.noskip.see.Goals as goal

pub returns-then-s-cursor : goal.returns-then-s-cursor
returns-then-s-cursor c = let a = c.args in rw (past_end a.s.now a.cursor.cursor c.if-s-cursor.true)

pub returns : goal.returns
returns c =
    let a = c.args in
    let seen = c.copied.ensures ∙ byte_got a.s.now a.cursor.cursor c.get.result c.get.ensures.lookup in
    rw (within a.s.now a.cursor.cursor c.if-s-cursor.false, seen)

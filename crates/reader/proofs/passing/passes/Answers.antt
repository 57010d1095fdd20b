-- `reader::passing::passes` meets its contract: a neighbour that the rule does not name may be any. Assumes nothing.
use Rattle.std.proofs.Common.{sym}
use Rattle.reader.proofs.rule.CommonLaws.{unnamed_is_free}
use Rattle.reader.proofs.passing.passes.Goals as goal

pub returns : goal.returns
returns c =
    rw (
      c.rule.ensures,
      c.previous_neighbour-earlier.ensures,
      c.next_neighbour-next.ensures,
      c.names_of-named.ensures,
    )
    (sym (unnamed_is_free _ _ _ _ _ _))

-- `reader::skip::block_from` meets its contract: none with any flag, else as many bytes as there are. Assumes nothing.
use Rattle.std.proofs.Common.{sym}
use Rattle.reader.proofs.skip.block_from.Goals as goal

pub returns-then-has_any : goal.returns-then-has_any
returns-then-has_any c = rw (c.new.ensures, sym c.has_any.ensures, c.if-has_any.true)

pub returns : goal.returns
returns c = rw (c.new-2.ensures, c.moved.ensures, c.bytes_left-taken.ensures, sym c.has_any.ensures, c.if-has_any.false)

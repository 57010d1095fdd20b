-- Who is named, from what `Reader::try_from`, or a test over it, found: for export's column, count and plain calls. Assumes nothing.
use Rattle.std.proofs.Common.{◌≡◌, Some, None, Ok, Err, Option, ok_or, arith}
use Rattle.reader.specs.declared.state.Reader.{Reader}
use Rattle.reader.specs.declared.state.UnknownReader.{UnknownReader}

-- a result tells what it was made of
pub named : (who : Option Reader) (e : UnknownReader) (r : Reader) → Ok r ≡ ok_or who e → who ≡ Some r
named (Some x) e r same = grind arith
named None e r same = grind arith

pub unnamed : (who : Option Reader) (e x : UnknownReader) → Err x ≡ ok_or who e → who ≡ None
unnamed (Some r) e x same = grind arith
unnamed None e x same = grind arith

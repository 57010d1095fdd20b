-- `vectors::run_end::pack_search` meets its contract. Assumes nothing.
use native.Mathlib.Omega.{arith}
use Rattle.vectors.specs.Packed.{with_byte}
use Rattle.vectors.specs.RunEnd.{packed_search}
use Rattle.vectors.proofs.run_end.pack_search.Goals as goal

pub returns : goal.returns
unfolding packed_search with_byte
returns c = rw (c.from_be_bytes.ensures, c.low_byte-end.ensures, c.low_byte-eights.ensures, c.low_byte-ones.ensures) (omega arith)

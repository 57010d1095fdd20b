use Rattle.std.proofs.Common.{◌≤◌, ◌≡◌, length, drop}
use Rattle.vectors.specs.Call.{bytes_behind, packed_part}
use Rattle.vectors.proofs.call.pack_part.Given as goal

abbrev pub invariant-loop-byte : goal.invariant-loop-byte
invariant-loop-byte l =
    (l.byte-index ≤ length l.part) × (bytes_behind l.packed (drop l.byte-index l.part) ≡ packed_part l.part)

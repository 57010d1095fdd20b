use Rattle.std.proofs.Common.{◌≤◌, ◌≡◌, length, drop}
use Rattle.vectors.specs.Lines.{all_taken}
use Rattle.vectors.proofs.lines.Progress.take_in.Given as goal

abbrev pub invariant-loop-byte : goal.invariant-loop-byte
invariant-loop-byte g l =
    (l.byte-index ≤ length l.chunk) × (all_taken (drop l.byte-index l.chunk) l.self ≡ all_taken l.chunk l.initial.self)

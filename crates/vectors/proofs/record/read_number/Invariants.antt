use Rattle.std.proofs.Common.{◌≤◌, ◌<◌, ◌^◌, ◌≡◌, length, drop}
use Rattle.vectors.specs.Hex.{read_from}
use Rattle.vectors.proofs.record.read_number.Given as goal

-- the number of the digits so far is below 16 to their count, so that it fits; those left, after it, spell what all of them spell
abbrev pub invariant-loop-digit : goal.invariant-loop-digit
invariant-loop-digit l =
    (l.digit-index ≤ length l.digits) × (l.value < 16 ^ l.digit-index) × (read_from l.value (drop l.digit-index l.digits) ≡ read_from 0 l.digits)

-- A call made again and again, and several calls told as one. Assumes nothing.
use Rattle.std.specs.Prelude.{ℕ, zero, suc, ◌+◌, List, [], ◌∷◌, Option, Some, None}
use Rattle.reader.specs.declared.state.State.{State}
use Rattle.reader.specs.Answer.{Outcome}

-- an outcome with more taken and passed before it
abbrev pub plus : ℕ → ℕ → Outcome → Outcome
plus taken passed o =
    record { refusal = o.refusal; byte = o.byte; taken = taken + o.taken; passed = passed + o.passed; state = o.state }

-- Several outcomes, of which o is the first, told as one: taken and passed are the sums of theirs; the rest is as the last has it.
abbrev pub summed : Outcome → List Outcome → Outcome
summed o [] = o
summed o (next ∷ rest) = plus o.taken o.passed (summed next rest)

-- what follows an answer with a byte; nothing follows one without
abbrev pub if_byte : Option ℕ → List Outcome → List Outcome
if_byte None following = []
if_byte (Some b) following = following

-- The calls after one with the outcome o, each from the state that the one before it returned, until one answers no byte; at most n.
unfoldable pub until_none : ℕ → (State → Outcome) → Outcome → List Outcome
until_none zero call o = []
until_none (suc n) call o = if_byte o.byte (call o.state ∷ until_none n call (call o.state))

-- a call and those after it until one answers no byte, at most n of them, told as one
abbrev pub repeated : ℕ → (State → Outcome) → State → Outcome
repeated n call st = summed (call st) (until_none n call (call st))

-- What the code's own look at the cursor finds, as a peek's outcome (src/skip.rt, `look`). Assumes nothing.
use Rattle.std.specs.Prelude.{ℕ, ◌<◌, ◌≤◌, List, length, None, Result, Ok, Err, IfSome}
use Rattle.reader.specs.declared.state.State.{State}
use Rattle.reader.specs.declared.state.Refusal.{Refusal}
use Rattle.reader.specs.declared.skip.Sight.{Sight}
use Rattle.reader.specs.State.{moved_to, count_sum}
use Rattle.reader.specs.Answer.{Outcome, number_of}

-- what a look saw, as the outcome of a peek from a state
abbrev pub look_outcome : State → Result Sight Refusal → Outcome
look_outcome st (Ok seen) =
    record { refusal = 0; byte = seen.byte; taken = 0; passed = seen.passed; state = moved_to st seen.place }
look_outcome st (Err e) = record { refusal = number_of e; byte = None; taken = 0; passed = 0; state = st }

-- a byte that was seen lies in the buffer, and the counts are within its place
abbrev pub LookFits : List ℕ → State → Result Sight Refusal → Type 0
LookFits s st (Ok seen) = IfSome seen.byte (λ _. (seen.place < length s) × (count_sum st ≤ seen.place))
LookFits s st (Err e) = Unit {0}

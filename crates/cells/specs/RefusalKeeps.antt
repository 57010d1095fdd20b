-- Demand 1 of a digit run: "Numbers added here and later join 01's table and demand 1." Assumes nothing.
use Rattle.std.specs.Prelude.{◌≡◌, ◌⊎◌, List, [], ℕ, ◌≤◌, ◌^◌, None}
use Rattle.reader.specs.declared.state.Reader.{Reader}
use Rattle.reader.specs.declared.state.State.{State}
use Rattle.reader.specs.declared.passing.Syntax.{Syntax}
use Rattle.reader.specs.Reading.{reading_with}
use Rattle.reader.specs.RefusalKeeps.{PlaceFault, SpecialFault, OwnFault}
use Rattle.cells.specs.Value.{value_of}
use Rattle.cells.specs.DigitRun.{RunOutcome, taken_run}

-- 01's numbers of a zero skip, each told of its own fault
abbrev pub ReaderFault : Syntax → List ℕ → State → Reader → ℕ → Type 0
ReaderFault x s st r number = PlaceFault s st number ⊎ (SpecialFault r number ⊎ OwnFault x.flags r number)

-- "23 no digit and 24 value above 64 bits"
abbrev pub DigitFault : Syntax → List ℕ → State → Reader → ℕ → Type 0
DigitFault x s st r number =
    ((number ≡ 23) × ((taken_run (reading_with x) s st r).digits ≡ []))
    ⊎ ((number ≡ 24) × (2 ^ 64 ≤ value_of x.radix (taken_run (reading_with x) s st r).digits))

-- a refused run takes nothing, passes nothing and returns the state it was given
pub record RunRefusalKeeps (x : Syntax) (s : List ℕ) (given : State) (r : Reader) (o : RunOutcome) : Type 0 where
  pub number : ReaderFault x s given r o.refusal ⊎ DigitFault x s given r o.refusal
  pub taken : o.taken ≡ 0
  pub passed : o.passed ≡ 0
  pub state : o.state ≡ given
  pub value : o.value ≡ None

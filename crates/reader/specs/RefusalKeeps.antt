-- Demand 1 (document 00): "it receives a result or one of document 01's numbers; a refused call takes nothing, passes nothing and
-- returns the state it was given." Of each call of a list, and of those that stand in none. Assumes nothing.
use Rattle.std.specs.Prelude.{◌≡◌, ℕ, ◌<◌, true, false, ◌⊎◌, List, [], length, None}
use Rattle.reader.specs.declared.rule.Flags.{Flags}
use Rattle.reader.specs.declared.state.Reader.{Reader}
use Rattle.reader.specs.declared.state.Reader.TheVariants.{Integer, Fraction, Exponent, Special}
use Rattle.reader.specs.declared.state.State.{State}
use Rattle.reader.specs.Reading.{Reading, is_consecutive_alone}
use Rattle.reader.specs.State.{count_sum, is_counted}
use Rattle.reader.specs.Answer.{CountOutcome}
use Rattle.reader.specs.Plain.{PlainOutcome}
use Rattle.reader.specs.Column.{ColumnOutcome, no_totals}
use Rattle.reader.specs.History.{Call, peek_by, take_by, read_if_by, zero_skip_by, block_by, Answered, number_in, taken_in, passed_in, returned, shown_in, seen_in, part_in}

-- WHAT A NUMBER STANDS FOR ("What the office log shows"): each is told of its own fault only.

-- "16: cursor past the end. 17: counts together exceed the cursor."
abbrev pub PlaceFault : List ℕ → State → ℕ → Type 0
PlaceFault s st number = ((number ≡ 16) × (length s < st.cursor)) ⊎ ((number ≡ 17) × (st.cursor < count_sum st))

-- "18: special reader: no zero skip, no block"
abbrev pub SpecialFault : Reader → ℕ → Type 0
SpecialFault r number = (number ≡ 18) × (is_counted r ≡ false)

-- "12, 13, 14: consecutive alone: integer, fraction, exponent": each the reader's own, and the special reader has none
abbrev pub OwnFault : Flags → Reader → ℕ → Type 0
OwnFault f Integer number = (number ≡ 12) × (is_consecutive_alone f ≡ true)
OwnFault f Fraction number = (number ≡ 13) × (is_consecutive_alone f ≡ true)
OwnFault f Exponent number = (number ≡ 14) × (is_consecutive_alone f ≡ true)
OwnFault f Special number = ⊥

-- "Reader calls test 16, 17, 18, then 12 to 14 for their own flags (block takes skip those)"; 18 is the zero skip's and the block's.
abbrev pub Fault : (Reader → Reading) → List ℕ → State → Call → ℕ → Type 0
Fault m s st (peek_by r) number = PlaceFault s st number ⊎ OwnFault (m r).flags r number
Fault m s st (take_by r) number = PlaceFault s st number ⊎ OwnFault (m r).flags r number
Fault m s st (read_if_by r wanted) number = PlaceFault s st number ⊎ OwnFault (m r).flags r number
Fault m s st (zero_skip_by r) number = PlaceFault s st number ⊎ (SpecialFault r number ⊎ OwnFault (m r).flags r number)
Fault m s st (block_by r n) number = PlaceFault s st number ⊎ SpecialFault r number

-- THE FIVE CALLS

-- A refusal gives only its number, and the state unchanged: no byte, no zeros, no block and no part.
pub record RefusalKeeps (m : Reader → Reading) (s : List ℕ) (given : State) (call : Call) (a : Answered) : Type 0 where
  pub number : Fault m s given call (number_in a)
  pub taken : taken_in a ≡ 0
  pub passed : passed_in a ≡ 0
  pub state : returned a ≡ given
  pub shown : shown_in a ≡ None
  pub seen : seen_in a ≡ None
  pub part : part_in a ≡ []

abbrev pub ResultOrRefusal : (Reader → Reading) → List ℕ → State → Call → Answered → Type 0
ResultOrRefusal m s given call a = (number_in a ≡ 0) ⊎ RefusalKeeps m s given call a

-- THE OTHERS

-- `current_count` tests the place alone, and returns no state.
pub record CountRefusalKeeps (s : List ℕ) (given : State) (o : CountOutcome) : Type 0 where
  pub number : PlaceFault s given o.refusal
  pub count : o.count ≡ None

-- "16 is its one refusal": the plain reader, whose state is a cursor
pub record PlainRefusalKeeps (s : List ℕ) (given : ℕ) (o : PlainOutcome) : Type 0 where
  pub number : (o.refusal ≡ 16) × (length s < given)
  pub taken : o.taken ≡ 0
  pub passed : o.passed ≡ 0
  pub cursor : o.cursor ≡ given
  pub byte : o.byte ≡ None

-- The cells of a column begin from fresh states, so that only the reader's own number is left.
pub record ColumnRefusalKeeps (f : Flags) (r : Reader) (o : ColumnOutcome) : Type 0 where
  pub number : OwnFault f r o.refusal
  pub totals : o.totals ≡ no_totals

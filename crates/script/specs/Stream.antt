-- Turn after turn over an input that arrives in pieces: what the functions of src/stream.rt promise. Assumes nothing.
use Rattle.std.specs.Prelude.{ℕ, ◌+◌, ◌-◌, ◌≤◌, ◌<◌, ◌≡◌, Bool, true, false, cond, List, [], ◌∷◌, ◌++◌, ◌==◌, nat_lt, length, take, drop, Option, Some, None, Result, Ok, Err, IfOk, IfErr}
use Rattle.script.specs.declared.run.Stage.{Stage}
use Rattle.script.specs.declared.run.Stage.TheVariants as stage
use Rattle.script.specs.declared.stream.Start.{Start}
use Rattle.script.specs.declared.stream.Next.{Next}
use Rattle.script.specs.declared.stream.Next.TheVariants as next
use Rattle.script.specs.declared.stream.Turn.{Turn}
use Rattle.script.specs.declared.stream.StreamError.{StreamError}
use Rattle.script.specs.declared.stream.StreamError.TheVariants.{CannotRead, CannotWrite}
use Rattle.script.specs.Line.{longest_line}
use Rattle.script.specs.Run.{Run, stopped, run_in, is_stopped}
use Rattle.script.specs.Script.{output_from, next_is_due}

-- Of bytes that have arrived, whatever comes behind them (nothing, where the input has ended), the run prints these bytes, and then
-- what the run that goes on prints of the bytes that are kept and of those that come.
abbrev pub Prints : Bool → List ℕ → Run → List ℕ → List ℕ → Run → Type 0
Prints ended arrived run printed kept next =
    (rest : List ℕ) → (ended ≡ true → rest ≡ []) → output_from (arrived ++ rest) 0 run ≡ printed ++ output_from (kept ++ rest) 0 next

-- What is to be done behind a turn: a run that is stopped is over; without room for a line the lines are written and a turn is taken
-- again; else all that is due is answered, and the run is over where the input is.
unfoldable pub next_of : Stage → ℕ → Bool → Next
next_of stage room ended = cond (is_stopped stage) next.Over (cond (nat_lt room longest_line) next.Again (cond ended next.Over next.Read))

-- What this says of the bytes that are kept: no more is printed, whatever comes; there was no room; or a record is not whole yet.
abbrev pub Leads : Stage → ℕ → Bool → List ℕ → Run → Next → Type 0
Leads stage room ended kept run next.Over = Prints ended kept run [] [] stopped
Leads stage room ended kept run next.Again = room < longest_line
Leads stage room ended kept run next.Read =
    (ended ≡ false) × (is_stopped stage ≡ false) × (next_is_due stage longest_line false kept ≡ false)

-- A turn: the lines that it has written into `out` are what the run prints of the bytes that had arrived, and what comes behind them
-- the run that goes on prints of the bytes that are kept and of the rest of the input.
pub record Turns (text buffer : List ℕ) (start : Start) (text' buffer' out : List ℕ) (turn : Turn) : Type 0 where
  pub kept : turn.kept ≤ length buffer'
  pub written : turn.end ≤ length out
  pub prints : Prints start.ended (take start.filled buffer) (run_in text start.stage) (take turn.end out)
      (take turn.kept buffer') (run_in text' turn.stage)
  pub leads : Leads turn.stage (length out - turn.end) start.ended (take turn.kept buffer') (run_in text' turn.stage) turn.next

-- a run begins with no text, and nothing has arrived
abbrev pub first_start : Start
first_start = record { stage = stage.Gathering 0; filled = 0; ended = false }

-- What a read tells: no byte is the input's end; else the bytes stand behind those that are kept.
abbrev pub arrival_of : Result ℕ StreamError → ℕ → Result (Option ℕ) StreamError
arrival_of (Err error) kept = Err error
arrival_of (Ok came) kept = Ok (cond (came == 0) None (Some (kept + came)))

-- A read behind the bytes that are kept, which stay. Its number is whatever the system answered, but never more than there was room for.
pub record Reads (kept : ℕ) (buffer buffer' : List ℕ) (answer : Result (Option ℕ) StreamError) : Type 0 where
  pub same : take kept buffer' ≡ take kept buffer
  pub got : Result ℕ StreamError
  pub fits : IfOk got (λ came. came ≤ length buffer' - kept)
  pub fails : IfErr got (λ error. error ≡ CannotRead)
  pub tells : answer ≡ arrival_of got kept

-- A read of no bytes says that the input has ended only where there was room for some.
abbrev pub RoomToRead : Turn → List ℕ → Type 0
RoomToRead turn buffer = turn.next ≡ next.Read → turn.kept < length buffer

-- what the turn behind one that asked for a read begins with: the bytes that came, or it is told that no more come
abbrev pub after_read : Turn → Option ℕ → Start
after_read turn (Some filled) = record { stage = turn.stage; filled = filled; ended = false }
after_read turn None = record { stage = turn.stage; filled = turn.kept; ended = true }

-- a turn's own bytes, once more
abbrev pub after_no_read : Turn → Bool → Start
after_no_read turn ended = record { stage = turn.stage; filled = turn.kept; ended = ended }

-- the run goes on behind a read, but for one that failed
abbrev pub behind_read : Turn → Result (Option ℕ) StreamError → Result (Option Start) StreamError
behind_read turn (Ok came) = Ok (Some (after_read turn came))
behind_read turn (Err error) = Err error

pub record FollowsRead (turn : Turn) (buffer buffer' : List ℕ) (answer : Result (Option Start) StreamError) : Type 0 where
  pub came : Result (Option ℕ) StreamError
  pub reads : Reads turn.kept buffer buffer' came
  pub tells : answer ≡ behind_read turn came

abbrev pub FollowsBy : Next → Turn → Bool → List ℕ → List ℕ → Result (Option Start) StreamError → Type 0
FollowsBy next.Over turn ended buffer buffer' answer = (buffer' ≡ buffer) × (answer ≡ Ok None)
FollowsBy next.Again turn ended buffer buffer' answer = (buffer' ≡ buffer) × (answer ≡ Ok (Some (after_no_read turn ended)))
FollowsBy next.Read turn ended buffer buffer' answer = FollowsRead turn buffer buffer' answer

-- How a run goes on behind a turn, whose lines were all written or not: only a turn that asks for a read is followed by one.
abbrev pub Follows : Result (Unit {0}) StreamError → Turn → Bool → List ℕ → List ℕ → Result (Option Start) StreamError → Type 0
Follows (Err error) turn ended buffer buffer' answer = (buffer' ≡ buffer) × (answer ≡ Err error)
Follows (Ok written) turn ended buffer buffer' answer = FollowsBy turn.next turn ended buffer buffer' answer

-- the bytes that came behind those that a turn kept
abbrev pub piece_behind : Turn → Start → List ℕ → List ℕ
piece_behind turn start buffer = drop turn.kept (take start.filled buffer)

-- Turn after turn from the first one on, each over what the last one left: behind each turn the piece that came, and the lines that it
-- left to be handed on, the earliest first. Where nothing is read between two turns, the piece is empty.
pub data History : List (List ℕ) → List (List ℕ) → Start → List ℕ → List ℕ → Type 0 where
  begins : {text buffer : List ℕ} → History [] [] first_start text buffer
  goes_on : {pieces lines : List (List ℕ)} {start start' : Start} {text text' buffer buffer' buffer'' out : List ℕ} {turn : Turn}
      → History pieces lines start text buffer
      → Turns text buffer start text' buffer' out turn
      → Follows (Ok tt) turn start.ended buffer' buffer'' (Ok (Some start'))
      → History (pieces ++ (piece_behind turn start' buffer'' ∷ [])) (lines ++ (take turn.end out ∷ [])) start' text' buffer''

-- A history and its last turn, of which nothing is left to be done but to hand its lines on: all pieces, all lines, and whether the
-- input had ended. `text` and `out` are as that turn left them.
pub data LastTurn : List (List ℕ) → List (List ℕ) → Bool → List ℕ → List ℕ → Turn → Type 0 where
  last : {pieces lines : List (List ℕ)} {start : Start} {text text' buffer buffer' out : List ℕ} {turn : Turn}
      → History pieces lines start text buffer
      → Turns text buffer start text' buffer' out turn
      → LastTurn pieces (lines ++ (take turn.end out ∷ [])) start.ended text' out turn

abbrev pub joined : List (List ℕ) → List ℕ
joined [] = []
joined (l ∷ rest) = l ++ joined rest

-- more turns than any run takes
abbrev pub most_turns : ℕ
most_turns = 18446744073709551615

pub record Ran (count : ℕ) (start : Start) (text buffer : List ℕ) : Type 0 where
  pub pieces : List (List ℕ)
  pub lines : List (List ℕ)
  pub history : History pieces lines start text buffer
  pub turns : length pieces ≡ count

pub record RanTo (text out : List ℕ) (how : Next → Type 0) : Type 0 where
  pub pieces : List (List ℕ)
  pub lines : List (List ℕ)
  pub ended : Bool
  pub turn : Turn
  pub last : LastTurn pieces lines ended text out turn
  pub ends : how turn.next

-- How a run ends: there is a history whose last turn says that the run is over, or asks for the read that failed, or has the lines that
-- were not all written; it breaks off only behind the most turns. Which history it is, no contract of a read or write can say.
abbrev pub Ends : List ℕ → List ℕ → List ℕ → Result (Option Start) StreamError → Type 0
Ends text buffer out (Ok (Some start)) = Ran most_turns start text buffer
Ends text buffer out (Ok None) = RanTo text out (λ n. n ≡ next.Over)
Ends text buffer out (Err CannotRead) = RanTo text out (λ n. n ≡ next.Read)
Ends text buffer out (Err CannotWrite) = RanTo text out (λ n. Unit {0})

-- A run that one of document 01's numbers refuses makes no step. Assumes nothing.
use Rattle.std.proofs.Common.{◌≡◌, ℕ, List, ◌∷◌, sym, refl}
use Rattle.word.specs.Check.{first_failing}
use Rattle.reader.specs.declared.state.Reader.{Reader}
use Rattle.reader.specs.declared.state.State.{State}
use Rattle.reader.specs.declared.state.Refusal.{Refusal}
use Rattle.reader.specs.declared.state.Refusal.TheVariants.{CursorPastEnd, CountsExceedCursor, SpecialReader, ConsecutiveInteger, ConsecutiveFraction, ConsecutiveExponent}
use Rattle.reader.specs.declared.passing.Syntax.{Syntax}
use Rattle.reader.specs.Answer.{number_of}
use Rattle.reader.specs.ZeroSkip.{skip_refusal}
use Rattle.reader.proofs.state.Refusals.{refusal_tells}
use Rattle.cells.specs.DigitRun.{refused_run, run_refusal, digit_run_of}

first_fails : (e : Refusal) (rest : List ℕ) → first_failing (number_of e ∷ rest) ≡ number_of e
first_fails CursorPastEnd rest = refl
first_fails CountsExceedCursor rest = refl
first_fails SpecialReader rest = refl
first_fails ConsecutiveInteger rest = refl
first_fails ConsecutiveFraction rest = refl
first_fails ConsecutiveExponent rest = refl

pub run_refused : (x : Syntax) (s : List ℕ) (st : State) (r : Reader) (e : Refusal) → number_of e ≡ skip_refusal x.flags s st r
    → refused_run (number_of e) st ≡ digit_run_of x s st r
unfolding digit_run_of run_refusal
run_refused x s st r e number = rw (sym number, first_fails e, refusal_tells e)

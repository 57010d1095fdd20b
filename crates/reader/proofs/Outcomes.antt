-- An outcome tells the answer, so a contract that gives the outcome gives the whole answer, its case included.
-- Theorems, used by no function. Assumes nothing.
use Rattle.std.proofs.Common.{◌≡◌, ℕ, cond, eqb, Some, None, Ok, Err, Option, Result, sym, refl, ap, ◌∙◌}
use Rattle.std.proofs.lemmas.Option.{none-some, same_Some}
use Rattle.word.specs.declared.error.Error.{Error}
use Rattle.reader.specs.declared.open.RefusedWord.{RefusedWord}
use Rattle.word.proofs.error.Numbers.{number_tells}
use Rattle.reader.specs.declared.state.Refusal.{Refusal}
use Rattle.reader.specs.declared.state.Refusal.TheVariants.{CursorPastEnd, CountsExceedCursor, SpecialReader, ConsecutiveInteger, ConsecutiveFraction, ConsecutiveExponent}
use Rattle.reader.specs.declared.answer.Answer.{Answer}
use Rattle.reader.specs.declared.answer.Read.{Read}
use Rattle.reader.specs.declared.answer.Read.TheVariants as read
use Rattle.reader.specs.declared.state.State.{State}
use Rattle.reader.specs.declared.column.Totals.{Totals}
use Rattle.reader.specs.declared.noskip.CursorPastEnd.{CursorPastEnd as PlainRefusal}
use Rattle.reader.specs.declared.noskip.Answer.{Answer as PlainAnswer}
use Rattle.reader.specs.Plain.{PlainOutcome, plain_number, plain_byte, plain_outcome_of}
use Rattle.reader.specs.Column.{ColumnOutcome, column_outcome_of}
use Rattle.reader.specs.Open.{OpenOutcome, open_outcome_of}
use Rattle.reader.specs.Answer.{number_of, refusal_in, answer_in, found_in, Outcome, outcome_of, read_byte, read_seen, ReadOutcome, read_outcome_of, SkipOutcome, skip_outcome_of, BlockOutcome, block_outcome_of, CountOutcome, count_outcome_of}
use Rattle.reader.proofs.state.Refusals.{refusal_tells}

-- the refusal with a number; the last one stands for all other numbers
abbrev refusal_from : ℕ → Refusal
refusal_from n =
    cond (eqb n 16) CursorPastEnd
    (cond (eqb n 17) CountsExceedCursor
    (cond (eqb n 18) SpecialReader
    (cond (eqb n 12) ConsecutiveInteger
    (cond (eqb n 13) ConsecutiveFraction ConsecutiveExponent))))

refusal_back : (e : Refusal) → refusal_from (number_of e) ≡ e
refusal_back CursorPastEnd = refl
refusal_back CountsExceedCursor = refl
refusal_back SpecialReader = refl
refusal_back ConsecutiveInteger = refl
refusal_back ConsecutiveFraction = refl
refusal_back ConsecutiveExponent = refl

-- a result, from the refusal's number and what is answered if there is none
module _ {X : Type 0} where
  abbrev result_from : ℕ → X → Result X Refusal
  result_from n answered = cond (eqb n 0) (Ok answered) (Err (refusal_from n))

  refused_back : (e : Refusal) (x : X) → result_from (number_of e) x ≡ Err e
  refused_back e x = rw (refusal_tells e, refusal_back e)

-- what has a way back from its outcome is told by it
tells : {A O : Type 0} (of : A → O) (from : O → A) → ((a : A) → from (of a) ≡ a) → (a b : A) → of a ≡ of b → a ≡ b
tells of from back a b e = sym (back a) ∙ ap from e ∙ back b

-- an answer with another find
abbrev found_as : {F : Type 0} → Answer F → F → Answer F
found_as a x = record { report = record { found = x; taken = a.report.taken; passed = a.report.passed }; state = a.state }

-- a take's and a peek's, and a block take's
found_back : (x : Result (Option ℕ) Refusal) → result_from (refusal_in x) (found_in x) ≡ x
found_back (Ok found) = refl
found_back (Err e) = refused_back e None

pub outcome_tells : (a b : Answer (Result (Option ℕ) Refusal)) → outcome_of a ≡ outcome_of b → a ≡ b
outcome_tells =
    tells outcome_of
    (λ (o : Outcome). record { report = record { found = result_from o.refusal o.byte; taken = o.taken; passed = o.passed }; state = o.state })
    (λ a. ap (found_as a) (found_back a.report.found))

pub block_outcome_tells : (a b : Answer (Result (Option ℕ) Refusal)) → block_outcome_of a ≡ block_outcome_of b → a ≡ b
block_outcome_tells =
    tells block_outcome_of
    (λ (o : BlockOutcome). record { report = record { found = result_from o.refusal o.block; taken = o.taken; passed = o.passed }; state = o.state })
    (λ a. ap (found_as a) (found_back a.report.found))

-- a conditional read's
abbrev pub read_from : ℕ → (byte seen : Option ℕ) → Result Read Refusal
read_from n (Some b) seen = Ok (read.Taken b)
read_from n None (Some b) = Ok (read.Declined b)
read_from n None None = result_from n read.End

pub read_back : (x : Result Read Refusal) → read_from (refusal_in x) (read_byte x) (read_seen x) ≡ x
read_back (Ok (read.Taken b)) = refl
read_back (Ok (read.Declined b)) = refl
read_back (Ok read.End) = refl
read_back (Err e) = refused_back e read.End

pub read_outcome_tells : (a b : Answer (Result Read Refusal)) → read_outcome_of a ≡ read_outcome_of b → a ≡ b
read_outcome_tells =
    tells read_outcome_of
    (λ (o : ReadOutcome). record { report = record { found = read_from o.outcome.refusal o.outcome.byte o.seen; taken = o.outcome.taken; passed = o.outcome.passed }; state = o.outcome.state })
    (λ a. ap (found_as a) (read_back a.report.found))

-- a zero skip's, and what `current_count` answers
abbrev number_from : ℕ → Option ℕ → Result ℕ Refusal
number_from n (Some k) = Ok k
number_from n None = Err (refusal_from n)

number_back : (x : Result ℕ Refusal) → number_from (refusal_in x) (answer_in x) ≡ x
number_back (Ok n) = refl
number_back (Err e) = ap Err (refusal_back e)

pub skip_outcome_tells : (a b : Answer (Result ℕ Refusal)) → skip_outcome_of a ≡ skip_outcome_of b → a ≡ b
skip_outcome_tells =
    tells skip_outcome_of
    (λ (o : SkipOutcome). record { report = record { found = number_from o.refusal o.zeros; taken = o.taken; passed = o.passed }; state = o.state })
    (λ a. ap (found_as a) (number_back a.report.found))

pub count_outcome_tells : (a b : Result ℕ Refusal) → count_outcome_of a ≡ count_outcome_of b → a ≡ b
count_outcome_tells = tells count_outcome_of (λ (o : CountOutcome). number_from o.refusal o.count) number_back

-- a column's
abbrev column_from : ColumnOutcome → Result Totals Refusal
column_from o = cond (eqb o.refusal 0) (Ok o.totals) (Err (refusal_from o.refusal))

column_back : (x : Result Totals Refusal) → column_from (column_outcome_of x) ≡ x
column_back (Ok t) = refl
column_back (Err e) = rw (refusal_tells e, refusal_back e)

pub column_outcome_tells : (a b : Result Totals Refusal) → column_outcome_of a ≡ column_outcome_of b → a ≡ b
column_outcome_tells = tells column_outcome_of column_from column_back

-- the plain reader's, with its one refusal
abbrev plain_from : ℕ → Option ℕ → Result (Option ℕ) PlainRefusal
plain_from n seen = cond (eqb n 0) (Ok seen) (Err (record {}))

plain_back : (x : Result (Option ℕ) PlainRefusal) → plain_from (plain_number x) (plain_byte x) ≡ x
plain_back (Ok seen) = refl
plain_back (Err e) = refl

pub plain_outcome_tells : (a b : PlainAnswer) → plain_outcome_of a ≡ plain_outcome_of b → a ≡ b
plain_outcome_tells =
    tells plain_outcome_of
    (λ (o : PlainOutcome). record { report = record { found = plain_from o.refusal o.byte; taken = o.taken; passed = o.passed }; cursor = record { cursor = o.cursor } })
    (λ a. ap (λ (x : Result (Option ℕ) PlainRefusal). record { report = record { found = x; taken = a.report.taken; passed = a.report.passed }; cursor = a.cursor }) (plain_back a.report.found))

-- that of opening a cell: with no state, its number tells the check's answer
pub open_outcome_tells : (a b : Result State RefusedWord) → open_outcome_of a ≡ open_outcome_of b → a ≡ b
open_outcome_tells (Ok x) (Ok y) e = ap Ok (same_Some x y (ap (λ (o : OpenOutcome). o.state) e))
open_outcome_tells (Err x) (Err y) e = ap (λ (r : Error). Err (record { 0 = r })) (number_tells x.0 y.0 (ap (λ (o : OpenOutcome). o.refusal) e))
open_outcome_tells (Ok x) (Err y) e = absurd (none-some x (sym (ap (λ (o : OpenOutcome). o.state) e)))
open_outcome_tells (Err x) (Ok y) e = absurd (none-some y (ap (λ (o : OpenOutcome). o.state) e))

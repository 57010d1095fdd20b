-- DEMAND 1 of a digit run: a value, or one of its numbers, told of its own fault, with nothing taken, nothing passed and the state that it
-- was given. For every word, buffer, state and reader; nothing is assumed. 01's numbers are those of a zero skip, of which demand-1 speaks.
use Rattle.std.proofs.Common.{◌≡◌, ℕ, zero, suc, ◌^◌, Bool, true, false, not, eqb, ltb, ◌⊎◌, List, [], ◌∷◌, length, refl, inl, inr, arith, ltb-false, eqb-true}
use borrow.Author.Tests.{eqb-false}
use Rattle.std.proofs.lemmas.List.{nil_from_length}
use Rattle.word.specs.Check.{line, first_failing}
use Rattle.reader.specs.declared.state.Reader.{Reader}
use Rattle.reader.specs.declared.state.State.{State}
use Rattle.reader.specs.declared.passing.Syntax.{Syntax}
use Rattle.reader.specs.Reading.{Reading, reading_with}
use Rattle.reader.specs.ZeroSkip.{skip_refusal, skip_zeros_of}
use Rattle.reader.specs.History.{zero_skip_by, answer_to}
use Rattle.reader.specs.RefusalKeeps.{ResultOrRefusal}
use Rattle.reader.proofs.Demand1.{demand_1}
use Rattle.cells.specs.Value.{value_of}
use Rattle.cells.specs.DigitRun.{line23, line24, taken_run, run_refusal, digit_run_of}
use Rattle.cells.specs.RefusalKeeps.{ReaderFault, DigitFault, RunRefusalKeeps}

module _ (x : Syntax) (s : List ℕ) (st : State) (r : Reader) where
  abbrev m : Reading
  m = reading_with x

  -- 01's numbers: the zero skip's
  reader_number_lem : (skip_refusal x.flags s st r ≡ 0) ⊎ ReaderFault x s st r (skip_refusal x.flags s st r)
  unfolding reading_with skip_zeros_of
  reader_number_lem = go (eqb (skip_refusal x.flags s st r) 0) refl (demand_1 (λ sheet q. m) s st (zero_skip_by r)) where
    go :
        (t : Bool) → eqb (skip_refusal x.flags s st r) 0 ≡ t
        → ResultOrRefusal (λ q. m) s st (zero_skip_by r) (answer_to (λ sheet q. m) s st (zero_skip_by r))
        → (skip_refusal x.flags s st r ≡ 0) ⊎ ReaderFault x s st r (skip_refusal x.flags s st r)
    go true t known = inl (eqb-true (skip_refusal x.flags s st r) 0 t)
    go false t (inl none) = inl (rw t at none)
    go false t (inr keeps) = inr (rw t at keeps.number)

  abbrev digits : List ℕ
  digits = (taken_run m s st r).digits

  -- 23 and 24, where 01's hold
  digit_number : (first_failing (line23 digits ∷ line24 (value_of x.radix digits) ∷ []) ≡ 0) ⊎ DigitFault x s st r (first_failing (line23 digits ∷ line24 (value_of x.radix digits) ∷ []))
  digit_number = go (eqb (length digits) 0) (ltb (value_of x.radix digits) (2 ^ 64)) refl refl where
    go :
        (t u : Bool) → eqb (length digits) 0 ≡ t → ltb (value_of x.radix digits) (2 ^ 64) ≡ u
        → (first_failing (line 23 (not t) ∷ line 24 u ∷ []) ≡ 0) ⊎ DigitFault x s st r (first_failing (line 23 (not t) ∷ line 24 u ∷ []))
    go true u e f = inr (inl (refl, nil_from_length digits (eqb-true (length digits) 0 e)))
    go false true e f = inl refl
    go false false e f = inr (inr (refl, ltb-false (value_of x.radix digits) (2 ^ 64) f))

  abbrev Judged : ℕ → Type 0
  Judged number = (number ≡ 0) ⊎ (ReaderFault x s st r number ⊎ DigitFault x s st r number)

  number_of : Judged (run_refusal x s st r)
  unfolding run_refusal
  number_of = go (skip_refusal x.flags s st r) reader_number_lem digit_number where
    rest : List ℕ
    rest = line23 digits ∷ line24 (value_of x.radix digits) ∷ []

    joined : (first_failing rest ≡ 0) ⊎ DigitFault x s st r (first_failing rest) → Judged (first_failing rest)
    joined (inl e) = inl e
    joined (inr fault) = inr (inr fault)

    go : (number : ℕ) → (number ≡ 0) ⊎ ReaderFault x s st r number → (first_failing rest ≡ 0) ⊎ DigitFault x s st r (first_failing rest)
        → Judged (first_failing (number ∷ rest))
    go zero known then = joined then
    go (suc n) (inl e) then = absurd (omega (arith, e))
    go (suc n) (inr fault) then = inr (inl fault)

  pub digit_run_refusal : ((digit_run_of x s st r).refusal ≡ 0) ⊎ RunRefusalKeeps x s st r (digit_run_of x s st r)
  unfolding digit_run_of
  digit_run_refusal = go (eqb (run_refusal x s st r) 0) refl number_of where
    go :
        (t : Bool) → eqb (run_refusal x s st r) 0 ≡ t → Judged (run_refusal x s st r)
        → ((digit_run_of x s st r).refusal ≡ 0) ⊎ RunRefusalKeeps x s st r (digit_run_of x s st r)
    go true t known = inl (rw t)
    go false t (inl e) = absurd (eqb-false (run_refusal x s st r) 0 t e)
    go false t (inr fault) = inr (rw t (record { number = fault; taken = refl; passed = refl; state = refl; value = refl }))

-- What an opened cell tells of the word: for `pawhetino_fresh`. Assumes nothing.
use Rattle.std.specs.Prelude.{Option, Some, None, Result, Ok, Err}
use mathlib.Core.Path.{◌≡◌, ◌∙◌, refl, sym, ap}
use mathlib.Core.Bool.{Bool, true, false, cond}
use Prim.Native.Nat.{ℕ}
use lib.Dec.{eqb}
use Rattle.word.specs.Check.{full_check}
use Rattle.reader.specs.declared.state.State.{State}
use Rattle.reader.specs.declared.open.RefusedWord.{RefusedWord}
use Rattle.reader.specs.State.{fresh_of}
use Rattle.reader.specs.Open.{OpenOutcome, word_of, open_of, open_outcome_of, refused_number}

given : (test : Bool) (st fresh : State) → test ≡ true → ◌≡◌ {A = Option State} (Some st) (cond test (Some fresh) None) → st ≡ fresh
given true st fresh t e = cc
given false st fresh t e = cc

not_given : (test : Bool) (fresh : State) → ◌≡◌ {A = Option State} None (cond test (Some fresh) None) → test ≡ false
not_given false fresh e = refl
not_given true fresh e = cc

module _ (lo hi : ℕ) (o : Result State RefusedWord) (found : open_outcome_of o ≡ open_of lo hi) where
  module _ (st : State) (is : o ≡ Ok st) where
    outcome : record { refusal = 0; state = Some st } ≡ open_of lo hi
    outcome = sym (ap open_outcome_of is) ∙ found

    pub fresh_number_lem : (open_of lo hi).refusal ≡ 0
    fresh_number_lem = sym (ap (λ (x : OpenOutcome). x.refusal) outcome)

    pub fresh_state : st ≡ fresh_of (word_of lo hi)
    unfolding open_of
    fresh_state =
        let zero_check : full_check (word_of lo hi) ≡ 0 = fresh_number_lem in
        given (eqb (full_check (word_of lo hi)) 0) st (fresh_of (word_of lo hi)) (rw zero_check) (ap (λ (x : OpenOutcome). x.state) outcome)

  module _ (e : RefusedWord) (is : o ≡ Err e) where
    outcome_refused : record { refusal = refused_number e; state = None } ≡ open_of lo hi
    outcome_refused = sym (ap open_outcome_of is) ∙ found

    pub refused_number_lem : refused_number e ≡ (open_of lo hi).refusal
    refused_number_lem = ap (λ (x : OpenOutcome). x.refusal) outcome_refused

    pub refused_not_zero : eqb (open_of lo hi).refusal 0 ≡ false
    unfolding open_of
    refused_not_zero = not_given (eqb (full_check (word_of lo hi)) 0) (fresh_of (word_of lo hi)) (ap (λ (x : OpenOutcome). x.state) outcome_refused)

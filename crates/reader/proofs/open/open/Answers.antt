-- `reader::open::open` meets its contract: `?` tells the check's error as the refused word. Assumes nothing.
use Rattle.std.proofs.Common.{◌≡◌, ℕ, IsErrAnd, Ok, Err, Result, ne_eqb}
use Rattle.word.specs.declared.error.Error.{Error}
use Rattle.word.specs.Check.{full_check}
use Rattle.word.specs.Error.{number_of}
use Rattle.reader.specs.declared.state.State.{State}
use Rattle.reader.specs.declared.open.RefusedWord.{RefusedWord}
use Rattle.reader.specs.Open.{word_of, open_of, open_outcome_of}
use Rattle.reader.proofs.open.open.Goals as goal

-- what the error that `?` made is told as
told : (r : Result State RefusedWord) (e : Error) (lo hi : ℕ)
    → IsErrAnd r (λ x. x ≡ record { 0 = e }) → number_of e ≡ full_check (word_of lo hi) → (full_check (word_of lo hi) ≡ 0 → ⊥)
    → open_outcome_of r ≡ open_of lo hi
unfolding open_of
told (Err x) e lo hi is number fails = rw (is, number, ne_eqb (full_check (word_of lo hi)) 0 fails)
told (Ok st) e lo hi is number fails = absurd is

pub returns-in_err-check : goal.returns-in_err-check
returns-in_err-check c =
    let fault = c.in_err-check.ensures in told _ _ c.args.lo c.args.hi c.from_residual.ensures.1 fault.0 fault.1

pub returns : goal.returns
unfolding open_of
returns c = rw (c.in_ok-check.ensures, c.fresh.ensures)

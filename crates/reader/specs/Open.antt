-- Opening a cell (document 01, "Call script" and "Readers": "Accepted: the full check gives 0."). Assumes nothing.
use Rattle.std.specs.Prelude.{ℕ, cond, ◌==◌, Option, Some, None, Result, Ok, Err}
use Rattle.word.specs.declared.format_flags.Format.{Format}
use Rattle.word.specs.Check.{full_check}
use Rattle.reader.specs.declared.state.State.{State}
use Rattle.reader.specs.declared.open.RefusedWord.{RefusedWord}
use Rattle.word.specs.Error.{number_of}
use Rattle.reader.specs.State.{fresh_of}

-- the number that the full check gives, and a state where it is 0
pub record OpenOutcome : Type 0 where
  pub refusal : ℕ
  pub state : Option State

-- the number of the line that refuses a word
abbrev pub refused_number : RefusedWord → ℕ
refused_number e = number_of e.0

abbrev pub open_outcome_of : Result State RefusedWord → OpenOutcome
open_outcome_of (Ok st) = record { refusal = 0; state = Some st }
open_outcome_of (Err e) = record { refusal = refused_number e; state = None }

abbrev pub word_of : ℕ → ℕ → Format
word_of lo hi = record { lo = lo; hi = hi }

unfoldable pub open_of : ℕ → ℕ → OpenOutcome
open_of lo hi =
    record {
      refusal = full_check (word_of lo hi);
      state = cond (full_check (word_of lo hi) == 0) (Some (fresh_of (word_of lo hi))) None;
    }

-- What a whole call script prints: input bytes to output bytes (document 01, "Call script"). Assumes nothing.
use Rattle.std.specs.Prelude.{ℕ, zero, suc, ◌-◌, ◌≤◌, ◌≡◌, Bool, true, false, not, ◌&&◌, ◌||◌, nat_le, length, take, drop, List, [], ◌∷◌, ◌++◌}
use Rattle.script.specs.Record.{kind_of, size_behind, record_at}
use Rattle.script.specs.declared.run.Stage.{Stage}
use Rattle.script.specs.declared.answer.Progress.{Progress}
use Rattle.script.specs.Line.{longest_line}
use Rattle.script.specs.Run.{Run, gathering, run_in, is_stopped, Response, respond}

-- the response to the record that an input has behind a byte of kind
unfoldable pub response_at : Run → ℕ → List ℕ → Response
response_at run kind rest = respond run (record_at kind rest)

-- What a run prints of an input whose first `skipped` bytes belong to a record that was answered: from there on record after record.
-- "Input that ends between records ends the run."
abbrev pub output_from : List ℕ → ℕ → Run → List ℕ
output_from [] skipped run = []
output_from (b ∷ rest) (suc skipped) run = output_from rest skipped run
output_from (kind ∷ rest) zero run =
    (response_at run kind rest).line ++ output_from rest (size_behind (kind_of kind)) (response_at run kind rest).run

-- a run begins with no text
unfoldable pub output_of : List ℕ → List ℕ
output_of input = output_from input 0 (gathering [])

-- How far an input is answered, of which a part has arrived: whatever comes behind the part (nothing, where it has ended), the
-- run prints the bytes that are written, and then what the run that goes on prints of the rest.
pub record Answers (text : List ℕ) (begun : Stage) (input : List ℕ) (ended : Bool) (text' out : List ℕ) (progress : Progress) : Type 0 where
  pub read : progress.used ≤ length input
  pub written : progress.end ≤ length out
  pub prints : (rest : List ℕ) → (ended ≡ true → rest ≡ [])
      → output_from (input ++ rest) 0 (run_in text begun)
      ≡ take progress.end out ++ output_from (drop progress.used input ++ rest) 0 (run_in text' progress.stage)

-- The next record is answered at once where the run goes on, there is room for the longest line, and the body is there, or no more of
-- it comes.
unfoldable pub is_due : Stage → ℕ → Bool → ℕ → ℕ → Bool
is_due stage room ended size there = not (is_stopped stage) && (nat_le longest_line room && (ended || nat_le size there))

-- the same of what is left of an input; where nothing is left, nothing is due
abbrev pub next_is_due : Stage → ℕ → Bool → List ℕ → Bool
next_is_due stage room ended [] = false
next_is_due stage room ended (kind ∷ body) = is_due stage room ended (size_behind (kind_of kind)) (length body)

-- no record that is due is left
abbrev pub GoesAsFar : List ℕ → Bool → ℕ → Progress → Type 0
GoesAsFar input ended space progress = next_is_due progress.stage (space - progress.end) ended (drop progress.used input) ≡ false

-- A cell that begins with a digit and each of whose separators, as far as its digits go, stands right before one: what the run of its
-- digits comes to, from a fresh state, by every counted reader that may pass between digits (src/digit_run.rt). Assumes nothing.
use Rattle.std.specs.Prelude.{◌≡◌, List, ℕ, Some}
use Rattle.word.specs.declared.format_flags.Format.{Format}
use Rattle.reader.specs.declared.state.Reader.{Reader}
use Rattle.reader.specs.declared.passing.Syntax.{Syntax}
use Rattle.reader.specs.State.{fresh_of, moved_to}
use Rattle.reader.specs.Code.TakeSums.{with_count}
use Rattle.cells.specs.DigitRun.{digit_run_of}
use Rattle.export.specs.Code.GroupedCell.{Between}

-- it ends at a place, with this value, so many digits and so many separators passed
abbrev pub GroupedRun : ℕ → ℕ → List ℕ → ℕ → ℕ → ℕ → ℕ → Type 0
GroupedRun separator radix s at value count passed =
    (x : Syntax) (f : Format) (r : Reader) → Between x separator radix r
    → record { refusal = 0; value = Some value; taken = count; passed = passed; state = with_count (moved_to (fresh_of f) at) r count }
    ≡ digit_run_of x s (fresh_of f) r

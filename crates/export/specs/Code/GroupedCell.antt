-- A cell each of whose separators stands right before a digit, and none before the first one: what takes to its end come to, from a
-- fresh state, by every counted reader that may pass between digits; and one each of whose runs of separators does (src/next_all.rt).
-- Assumes nothing.
use Rattle.std.specs.Prelude.{◌≡◌, true, List, ℕ, ◌<◌, length}
use Rattle.word.specs.declared.format_flags.Format.{Format}
use Rattle.reader.specs.declared.state.Reader.{Reader}
use Rattle.reader.specs.declared.passing.Syntax.{Syntax}
use Rattle.reader.specs.Reading.{reading_with}
use Rattle.reader.specs.State.{fresh_of, is_counted}
use Rattle.reader.specs.Code.TakeSums.{sums_outcome}
use Rattle.reader.specs.Calls.{next_all_of}

-- a counted reader that may pass separators between digits
pub record Between (x : Syntax) (separator radix : ℕ) (r : Reader) : Type 0 where
  pub own_separator : x.separator ≡ separator
  pub own_radix : x.radix ≡ radix
  pub internal : x.flags.internal ≡ true
  pub counted : is_counted r ≡ true
  pub positive : 0 < separator

-- takes to the end of the cell count so many digits and pass so many separators
abbrev pub GroupedCell : ℕ → ℕ → List ℕ → ℕ → ℕ → Type 0
GroupedCell separator radix s count passed =
    (x : Syntax) (f : Format) (r : Reader) → Between x separator radix r
    → sums_outcome (fresh_of f) r (record { at = length s; count = count; passed = passed }) ≡ next_all_of (reading_with x) s (fresh_of f) r

-- the same by every such reader that passes several separators at once
abbrev pub SpacedCell : ℕ → ℕ → List ℕ → ℕ → ℕ → Type 0
SpacedCell separator radix s count passed =
    (x : Syntax) (f : Format) (r : Reader) → Between x separator radix r → x.flags.consecutive ≡ true
    → sums_outcome (fresh_of f) r (record { at = length s; count = count; passed = passed }) ≡ next_all_of (reading_with x) s (fresh_of f) r

-- What takes to the end of every cell of a column answer to a caller who names the reader by a byte. Assumes nothing.
use Rattle.std.specs.Prelude.{ℕ, List, Result, Ok, Err}
use Rattle.word.specs.declared.format_flags.Format.{Format}
use Rattle.reader.specs.declared.column.Totals.{Totals}
use Rattle.reader.specs.State.{reader_named}
use Rattle.reader.specs.Reading.{reading_of}
use Rattle.reader.specs.Column.{no_totals, ColumnOutcome, column_of}
use Rattle.export.specs.State.{by_reader}

unfoldable pub column_read_by : ℕ → Format → List ℕ → List ℕ → ColumnOutcome
column_read_by n f s ends =
    by_reader (reader_named n) (record { refusal = 19; totals = no_totals }) (λ r. column_of (reading_of f r) f r s ends)

-- the number returned and what the caller then has behind its pointers
pub record Held : Type 0 where
  pub number : ℕ
  pub taken : ℕ
  pub passed : ℕ
  pub digits : ℕ

abbrev pub column_held : (number taken passed digits : ℕ) → Held
column_held number taken passed digits = record { number = number; taken = taken; passed = passed; digits = digits }

-- an outcome as it is written
abbrev pub column_written : ColumnOutcome → Held
column_written o = column_held o.refusal o.totals.taken o.totals.passed o.totals.digits

-- the sums, or the number of a refusal
abbrev pub held_of : Result Totals ℕ → Held
held_of (Ok totals) = column_held 0 totals.taken totals.passed totals.digits
held_of (Err number) = column_held number 0 0 0

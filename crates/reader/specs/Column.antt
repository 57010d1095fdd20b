-- Take to the end over a column of cells in one call: the sums over its cells of the one-cell call. Assumes nothing.
use Rattle.std.specs.Prelude.{ℕ, ◌+◌, ◌-◌, min, max, cond, List, [], ◌∷◌, length, take, drop, ◌==◌, Result, Ok, Err}
use Rattle.word.specs.declared.format_flags.Format.{Format}
use Rattle.reader.specs.declared.state.Reader.{Reader}
use Rattle.reader.specs.declared.state.Refusal.{Refusal}
use Rattle.reader.specs.declared.column.Totals.{Totals}
use Rattle.reader.specs.Reading.{Reading}
use Rattle.reader.specs.State.{fresh_of, count_of}
use Rattle.reader.specs.Answer.{number_of, Outcome}
use Rattle.reader.specs.Calls.{refusal_with, next_all_of}

-- the bytes from one place to another
abbrev pub part_from : List ℕ → ℕ → ℕ → List ℕ
part_from s start end = take (end - start) (drop start s)

-- Where a cell ends that begins at `start`: an end before that, or past the buffer, counts as that bound.
abbrev pub bound_of : List ℕ → ℕ → ℕ → ℕ
bound_of s start end = min (max end start) (length s)

abbrev pub no_totals : Totals
no_totals = record { taken = 0; passed = 0; digits = 0 }

abbrev pub add_totals : Totals → Totals → Totals
add_totals a b = record { taken = a.taken + b.taken; passed = a.passed + b.passed; digits = a.digits + b.digits }

-- what one call adds: the bytes taken, the separators passed, and the digits that the reader has counted behind it
abbrev pub totals_of : Reader → Outcome → Totals
totals_of r o = record { taken = o.taken; passed = o.passed; digits = count_of o.state r }

-- The cells begin one where the other ends. Each is a buffer of its own, taken to its end from a fresh state.
abbrev pub cell_totals : Reading → Format → Reader → List ℕ → Totals
cell_totals m f r cell = totals_of r (next_all_of m cell (fresh_of f) r)

unfoldable pub column_from : Reading → Format → Reader → List ℕ → ℕ → List ℕ → Totals
column_from m f r s start [] = no_totals
column_from m f r s start (end ∷ ends) =
    add_totals (cell_totals m f r (part_from s start (bound_of s start end))) (column_from m f r s (bound_of s start end) ends)

-- The call is refused as a take from a fresh state is: by the reader's own number, 12 to 14. A refusal stands for 0 of each.
pub record ColumnOutcome : Type 0 where
  pub refusal : ℕ
  pub totals : Totals

unfoldable pub column_of : Reading → Format → Reader → List ℕ → List ℕ → ColumnOutcome
column_of m f r s ends =
    cond (refusal_with m.flags s (fresh_of f) r == 0)
    (record { refusal = 0; totals = column_from m f r s 0 ends })
    (record { refusal = refusal_with m.flags s (fresh_of f) r; totals = no_totals })

-- what the cases of the answer say
abbrev pub column_outcome_of : Result Totals Refusal → ColumnOutcome
column_outcome_of (Ok t) = record { refusal = 0; totals = t }
column_outcome_of (Err e) = record { refusal = number_of e; totals = no_totals }

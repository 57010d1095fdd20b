-- The state of a cursor (document 01, "Passing"): the word, the cursor and the three digit counts. Assumes nothing.
use Rattle.std.specs.Prelude.{ℕ, ◌+◌, Bool, true, false, cond, ◌==◌, Option, Some, None}
use Rattle.word.specs.declared.format_flags.Format.{Format}
use Rattle.reader.specs.declared.state.Reader.{Reader}
use Rattle.reader.specs.declared.state.Reader.TheVariants.{Integer, Fraction, Exponent, Special}
use Rattle.reader.specs.declared.state.State.{State}

-- What of a state says how it is read, by every reader. No call changes it.
pub record Sheet : Type 0 where
  pub format : Format

abbrev pub sheet_of : State → Sheet
sheet_of st = record { format = st.format }

-- the sheet of a word with nothing beside it
abbrev pub sheet_with : Format → Sheet
sheet_with f = record { format = f }

-- "Fresh": cursor and three counts 0
abbrev pub fresh_on : Sheet → State
fresh_on sheet =
    record { format = sheet.format; cursor = 0; integer = record { 0 = 0 }; fraction = record { 0 = 0 }; exponent = record { 0 = 0 } }

abbrev pub fresh_of : Format → State
fresh_of f = fresh_on (sheet_with f)

-- "Readers: integer 0, fraction 1, exponent 2, special 3."
abbrev pub reader_number : Reader → ℕ
reader_number Integer = 0
reader_number Fraction = 1
reader_number Exponent = 2
reader_number Special = 3

-- the reader that a number names
unfoldable pub reader_named : ℕ → Option Reader
reader_named n =
    cond (n == 0) (Some Integer) (cond (n == 1) (Some Fraction) (cond (n == 2) (Some Exponent) (cond (n == 3) (Some Special) None)))

-- the reader's own count; the special reader counts nothing
unfoldable pub count_of : State → Reader → ℕ
count_of st Integer = st.integer.0
count_of st Fraction = st.fraction.0
count_of st Exponent = st.exponent.0
count_of st Special = 0

abbrev pub count_sum : State → ℕ
count_sum st = st.integer.0 + st.fraction.0 + st.exponent.0

-- the same state with its cursor at `place`
unfoldable pub moved_to : State → ℕ → State
moved_to st place = record { format = st.format; cursor = place; integer = st.integer; fraction = st.fraction; exponent = st.exponent }

-- the same state with the reader's own count raised by one
unfoldable pub counted_by : State → Reader → State
counted_by st Integer =
    record { format = st.format; cursor = st.cursor; integer = record { 0 = st.integer.0 + 1 }; fraction = st.fraction; exponent = st.exponent }
counted_by st Fraction =
    record { format = st.format; cursor = st.cursor; integer = st.integer; fraction = record { 0 = st.fraction.0 + 1 }; exponent = st.exponent }
counted_by st Exponent =
    record { format = st.format; cursor = st.cursor; integer = st.integer; fraction = st.fraction; exponent = record { 0 = st.exponent.0 + 1 } }
counted_by st Special = st

-- the special reader counts nothing
abbrev pub is_counted : Reader → Bool
is_counted Integer = true
is_counted Fraction = true
is_counted Exponent = true
is_counted Special = false

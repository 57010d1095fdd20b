-- The entries of a catalogue (document 02, 2026-04): "up to 64 entries of school number (16 bits, 1 to 65,535) and format word". They stand
-- ascending by school number, which the request leaves free. Assumes nothing.
use Rattle.std.specs.Prelude.{ℕ, ◌+◌, if◌then◌else◌, Option, Some, None, List, [], ◌∷◌, ◌==◌, nat_lt}
use Rattle.word.specs.declared.format_flags.Format.{Format}
use Rattle.word.specs.Word.{digit_separator}
use Rattle.catalogue.specs.declared.entries.Entry.{Entry}

abbrev pub entry_of : ℕ → Format → Entry
entry_of school f = record { school = school; format = f }

-- The word of a school. Entries with a smaller number are passed over; the first other one is the school's, or the school is not listed.
abbrev pub look_up : ℕ → List Entry → Option Format
look_up n [] = None
look_up n (e ∷ rest) = if nat_lt e.school n then look_up n rest else (if e.school == n then Some e.format else None)

-- an entry put in front of the first one whose number is not smaller
abbrev pub inserted : Entry → List Entry → List Entry
inserted e [] = e ∷ []
inserted e (x ∷ rest) = if nat_lt x.school e.school then x ∷ inserted e rest else e ∷ x ∷ rest

-- the entries without a school's
abbrev pub without : ℕ → List Entry → List Entry
without n [] = []
without n (x ∷ rest) = if nat_lt x.school n then x ∷ without n rest else (if x.school == n then rest else x ∷ rest)

-- a sum over entries, whatever is summed
abbrev pub sum_of : (Entry → ℕ) → List Entry → ℕ
sum_of weight [] = 0
sum_of weight (e ∷ rest) = weight e + sum_of weight rest

-- whether a sheet uses a separator: "its byte is not 0"
abbrev pub uses : Format → ℕ
uses f = if digit_separator f == 0 then 0 else 1

-- "How many listed sheets use a separator"
abbrev pub count_over : List Entry → ℕ
count_over = sum_of (λ e. uses e.format)

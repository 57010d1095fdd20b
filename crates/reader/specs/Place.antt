-- A place of a buffer and the bytes around it (document 01, "Passing"). A byte that is not there is `none`. Assumes nothing.
use Rattle.std.specs.Prelude.{ℕ, suc, Bool, cond, not, ◌&&◌, List, [], ◌∷◌, reverse, take, drop, ◌==◌, Option, Some, None, slice_get}

-- S: b is the separator; with separator 0 nothing is
unfoldable pub is_separator : ℕ → ℕ → Bool
is_separator separator b = not (separator == 0) && b == separator

-- the byte at a place, if there is one
abbrev pub byte_at : List ℕ → ℕ → Option ℕ
byte_at s place = slice_get (drop place s) 0

-- the bytes before a place, the nearest first, and those after it
abbrev pub before : List ℕ → ℕ → List ℕ
before s place = reverse (take place s)

abbrev pub after : List ℕ → ℕ → List ℕ
after s place = drop (suc place) s

-- P and N: the first byte of a list that is no separator
abbrev pub first_other : ℕ → List ℕ → Option ℕ
first_other separator [] = None
first_other separator (b ∷ rest) = cond (is_separator separator b) (first_other separator rest) (Some b)

-- how many separators a list begins with
abbrev pub separator_run : ℕ → List ℕ → ℕ
separator_run separator [] = 0
separator_run separator (b ∷ rest) = cond (is_separator separator b) (suc (separator_run separator rest)) 0

-- the neighbour that a rule speaks of: the nearest byte of a list, or with the consecutive flag the nearest that is no separator
abbrev pub nearest : ℕ → Bool → List ℕ → Option ℕ
nearest separator consecutive bytes = cond consecutive (first_other separator bytes) (slice_get bytes 0)

-- A catalogue as a caller lends it, in 194 words: how many are listed, the tally, then school, lo and hi of each of the 64 places. Assumes nothing.
use Rattle.std.specs.Prelude.{ℕ, List, [], ◌∷◌, drop, slice_index}
use Rattle.catalogue.specs.declared.entries.Entry.{Entry}
use Rattle.catalogue.specs.Entries.{entry_of}
use Rattle.catalogue.specs.Catalogue.{Catalogue}

-- three words an entry
abbrev pub entry_words : List Entry → List ℕ
entry_words [] = []
entry_words (e ∷ rest) = e.school ∷ e.format.lo ∷ e.format.hi ∷ entry_words rest

abbrev pub entries_in : List ℕ → List Entry
entries_in (school ∷ lo ∷ hi ∷ rest) = entry_of school (record { lo = lo; hi = hi }) ∷ entries_in rest
entries_in (a ∷ b ∷ []) = []
entries_in (a ∷ []) = []
entries_in [] = []

abbrev pub words_of : Catalogue → List ℕ
words_of c = c.used ∷ c.tally ∷ entry_words c.places

unfoldable pub catalogue_in : List ℕ → Catalogue
catalogue_in w = record { used = slice_index w 0; tally = slice_index w 1; places = entries_in (drop 2 w) }

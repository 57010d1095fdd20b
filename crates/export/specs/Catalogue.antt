-- What a caller of the catalogue is told and written of a search: a school's word, or the listing's entry at a place. Assumes nothing.
use Rattle.std.specs.Prelude.{ℕ, Option, Some, None, List, [], ◌∷◌}
use Rattle.word.specs.declared.format_flags.Format.{Format}
use Rattle.catalogue.specs.declared.entries.Entry.{Entry}

-- "27 school not listed"
abbrev pub number_found : {A : Type 0} → Option A → ℕ
number_found None = 27
number_found (Some a) = 0

-- the two halves of the word, where a caller had the words `old`
abbrev pub halves_found : List ℕ → Option Format → List ℕ
halves_found old None = old
halves_found old (Some f) = f.lo ∷ f.hi ∷ []

-- school, lo and hi
abbrev pub entry_found : List ℕ → Option Entry → List ℕ
entry_found old None = old
entry_found old (Some e) = e.school ∷ e.format.lo ∷ e.format.hi ∷ []

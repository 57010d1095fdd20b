-- Lists of additions and removals, refused ones included, each on the catalogue that the last one left. Assumes nothing.
use Rattle.std.specs.Prelude.{ℕ, ◌≡◌, if◌then◌else◌, Option, Some, None, List, [], ◌∷◌, ◌==◌}
use Rattle.word.specs.declared.format_flags.Format.{Format}
use Rattle.catalogue.specs.declared.entries.Entry.{Entry}
use Rattle.catalogue.specs.Entries.{sum_of}
use Rattle.catalogue.specs.Catalogue.{Catalogue, listing, empty_catalogue, add_number, added, remove_number, removed}

pub data Act : Type 0 where
  add : ℕ → Format → Act
  remove : ℕ → Act

abbrev pub number_for : Catalogue → Act → ℕ
number_for c (add school f) = add_number c school f
number_for c (remove school) = remove_number c school

abbrev pub after : Catalogue → Act → Catalogue
after c (add school f) = added c school f
after c (remove school) = removed c school

-- the acts so far, the latest first, and the catalogue behind them
abbrev pub catalogue_after : List Act → Catalogue
catalogue_after [] = empty_catalogue
catalogue_after (act ∷ earlier) = after (catalogue_after earlier) act

-- what an act leaves of a school's word where it is accepted: it may be another school's
abbrev pub word_left : ℕ → Act → Option Format → Option Format
word_left n (add school f) before = if school == n then Some f else before
word_left n (remove school) before = if school == n then None else before

-- The word that a school was added with and not removed since, told by the answers alone: that of the last accepted act on it, if it was an
-- addition.
abbrev pub word_since : ℕ → List Act → Option Format
word_since n [] = None
word_since n (act ∷ earlier) = if number_for (catalogue_after earlier) act == 0 then word_left n act (word_since n earlier) else word_since n earlier

-- What the entries of a school weigh, by any weight of their words: 1 for each tells how often the school is listed, 1 for one word alone how
-- often it is listed with that word.
abbrev pub of_school : ℕ → (Format → ℕ) → Entry → ℕ
of_school n weight e = if e.school == n then weight e.format else 0

-- the same of the word that it should be listed with
abbrev pub weight_of : (Format → ℕ) → Option Format → ℕ
weight_of weight None = 0
weight_of weight (Some f) = weight f

-- "A listing gives exactly the schools added and not removed since, each once with its word"
abbrev pub ListedOnce : List Act → Type 0
ListedOnce acts = (n : ℕ) (weight : Format → ℕ) → sum_of (of_school n weight) (listing (catalogue_after acts)) ≡ weight_of weight (word_since n acts)

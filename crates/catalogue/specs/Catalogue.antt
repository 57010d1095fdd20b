-- The catalogue of school sheets (document 02, 2026-04): additions and removals, and what is asked of it. All of it is defined for catalogues
-- made otherwise too, of which the request leaves the answers free. Assumes nothing.
use Rattle.std.specs.Prelude.{ℕ, suc, ◌+◌, ◌-◌, if◌then◌else◌, not, ◌||◌, Option, Some, None, is_some, Result, Ok, Err, ⊤, List, [], ◌∷◌, ◌++◌, ◌==◌, nat_lt, length, take, drop, replicate, slice_get}
use Rattle.word.specs.declared.format_flags.Format.{Format}
use Rattle.word.specs.Error.{number_of}
use Rattle.word.specs.Check.{full_check, line, first_failing}
use Rattle.catalogue.specs.declared.entries.Entry.{Entry}
use Rattle.catalogue.specs.declared.error.CatalogueError.{CatalogueError}
use Rattle.catalogue.specs.declared.error.CatalogueError.TheVariants.{InvalidWord, InvalidSchool, Full, NotListed}
use Rattle.catalogue.specs.Entries.{entry_of, look_up, inserted, without, uses}

-- how many entries are listed, the kept tally, and the 64 places; the entries that are listed come first
pub record Catalogue : Type 0 where
  pub used : ℕ
  pub tally : ℕ
  pub places : List Entry

-- what stands in a place that is free
abbrev pub no_entry : Entry
no_entry = entry_of 0 (record { lo = 0; hi = 0 })

abbrev pub empty_catalogue : Catalogue
empty_catalogue = record { used = 0; tally = 0; places = replicate 64 no_entry }

-- the listing; "its order as yet free"
abbrev pub listing : Catalogue → List Entry
listing c = take c.used c.places

-- how many it lists
abbrev pub size : Catalogue → ℕ
size c = length (listing c)

-- the word that is listed for a school
abbrev pub word_in : Catalogue → ℕ → Option Format
word_in c school = look_up school (listing c)

-- what the listing has at i
abbrev pub entry_in : Catalogue → ℕ → Option Entry
entry_in c i = slice_get (listing c) i

-- ADDING. "Adding runs the full check first"; "25 school number 0 or listed already, 26 catalogue full, both after 1 to 14 and in that order"
unfoldable pub add_number : Catalogue → ℕ → Format → ℕ
add_number c school f =
    first_failing
    (full_check f
    ∷ line 25 (not (school == 0 || is_some (word_in c school)))
    ∷ line 26 (nat_lt (size c) 64)
    ∷ [])

-- the tally with one sheet more; in a catalogue made otherwise it may be any number, and from 64 on it stays
abbrev pub raised : ℕ → ℕ → ℕ
raised tally more = if nat_lt tally 64 then tally + more else tally

abbrev pub with_entry : Catalogue → Entry → Catalogue
with_entry c e =
    record {
      used = size c + 1;
      tally = raised c.tally (uses e.format);
      places = inserted e (listing c) ++ drop (suc (size c)) c.places;
    }

unfoldable pub added : Catalogue → ℕ → Format → Catalogue
added c school f = if add_number c school f == 0 then with_entry c (entry_of school f) else c

-- REMOVING. "27 school not listed, on removal"; "Removal frees the place for any later school."
abbrev pub without_entry : Catalogue → ℕ → Format → Catalogue
without_entry c school f =
    record {
      used = size c - 1;
      tally = c.tally - uses f;
      places = without school (listing c) ++ no_entry ∷ drop (size c) c.places;
    }

unfoldable pub remove_number : Catalogue → ℕ → ℕ
remove_number c school = line 27 (is_some (word_in c school))

abbrev pub without_listed : Catalogue → ℕ → Option Format → Catalogue
without_listed c school None = c
without_listed c school (Some f) = without_entry c school f

unfoldable pub removed : Catalogue → ℕ → Catalogue
removed c school = without_listed c school (word_in c school)

-- WHAT AN ANSWER SAYS
abbrev pub error_number : CatalogueError → ℕ
error_number (InvalidWord e) = number_of e
error_number InvalidSchool = 25
error_number Full = 26
error_number NotListed = 27

abbrev pub answer_number : Result ⊤ CatalogueError → ℕ
answer_number (Ok done) = 0
answer_number (Err e) = error_number e

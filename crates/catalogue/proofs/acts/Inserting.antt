-- An entry put in at its place: what the words come to. Assumes nothing.
use Rattle.std.proofs.Common.{◌≡◌, ℕ, suc, ◌+◌, ◌-◌, ◌*◌, ◌<◌, ◌≤◌, List, [], ◌∷◌, ◌++◌, length, get_or, take, drop, set, sym, ap, ◌∙◌, append_assoc, arith, length-take-le, take-suc}
use lib.Seq.{sets, set_at}
use Rattle.catalogue.specs.declared.entries.Entry.{Entry}
use Rattle.catalogue.specs.Entries.{inserted, uses}
use Rattle.catalogue.specs.Catalogue.{Catalogue, no_entry, listing, size, raised, with_entry}
use Rattle.catalogue.specs.Block.{entry_words, words_of, catalogue_in}
use Rattle.std.specs.List.{copy_within}
use Rattle.catalogue.specs.Code.Search.{before}
use Rattle.catalogue.proofs.entries.Words.{words_back, places_64, block_set, tally_at}
use Rattle.catalogue.proofs.entries.Place.{inserted_at}
use Rattle.catalogue.proofs.acts.Moving.{words_moved, listed_front, listed_behind}

-- the entries from a place on, up to the last one listed, each a place higher
abbrev up_entries : ℕ → ℕ → List Entry → List Entry
up_entries at len es = take (suc at) es ++ (take (len - at) (drop at es) ++ drop (suc len) es)

up_words : (u t at len : ℕ) (es : List Entry) → at ≤ len
    → copy_within (u ∷ t ∷ entry_words es) (2 + 3 * at) (2 + 3 * len) (2 + 3 * at + 3) ≡ u ∷ t ∷ entry_words (up_entries at len es)
up_words u t at len es h =
    words_moved u t at (len - at) (suc at) (suc len) es (omega arith) (2 + 3 * at) (2 + 3 * len) (2 + 3 * at + 3) (omega arith) (omega arith) (omega arith)

-- the place that they leave takes the entry
put_there : (at len : ℕ) (e : Entry) (es : List Entry) → at < length es
    → set (up_entries at len es) at e ≡ take at es ++ e ∷ (take (len - at) (drop at es) ++ drop (suc len) es)
put_there at len e es h =
    let rest : List Entry = take (len - at) (drop at es) ++ drop (suc len) es in
    ap (λ (l : List Entry). set (l ++ rest) at e) (take-suc es at no_entry h)
    ∙ ap (λ (l : List Entry). set l at e) (append_assoc (take at es) (get_or es at no_entry ∷ []) rest)
    ∙ set_at (take at es) (get_or es at no_entry) rest e at (length-take-le at es (omega arith))

-- which is where the definition puts it
module _ (c : Catalogue) (len at : ℕ) (e : Entry) (is-len : len ≡ size c) (place : at ≡ before e.school (listing c)) (within : at ≤ len) where
  abbrev es : List Entry
  es = c.places

  pub puts_in : inserted e (listing c) ++ drop (suc (size c)) es ≡ take at es ++ e ∷ (take (len - at) (drop at es) ++ drop (suc len) es)
  puts_in =
      let front : take at (listing c) ≡ take at es = listed_front c len is-len at within in
      let back : drop at (listing c) ≡ take (len - at) (drop at es) = listed_behind c len is-len at within in
      let spot : inserted e (listing c) ≡ take at (listing c) ++ e ∷ drop at (listing c) =
      inserted_at e (listing c) ∙ ap (λ (k : ℕ). take k (listing c) ++ e ∷ drop k (listing c)) (sym place) in
      ap (λ (l : List Entry). l ++ drop (suc (size c)) es) (spot ∙ ap (λ (l : List Entry). l ++ e ∷ drop at (listing c)) front ∙ ap (λ (l : List Entry). take at es ++ e ∷ l) back)
      ∙ ap (λ (n : ℕ). (take at es ++ e ∷ take (len - at) (drop at es)) ++ drop (suc n) es) (sym is-len)
      ∙ append_assoc (take at es) (e ∷ take (len - at) (drop at es)) (drop (suc len) es)

-- THE WORDS of `insert`, by what each of its steps promises
module _ (w w1 w2 : List ℕ) (len at more tally : ℕ) (e : Entry)
    (fits : length w ≡ 194) (is-len : len ≡ size (catalogue_in w)) (room : len < 64)
    (place : at ≡ before e.school (listing (catalogue_in w))) (within : at ≤ len)
    (first : w1 ≡ copy_within w (2 + 3 * at) (2 + 3 * len) (2 + 3 * at + 3)) (then : w2 ≡ sets w1 (2 + 3 * at) (entry_words (e ∷ [])))
    (adding : more ≡ uses e.format) (kept : tally ≡ raised (get_or w 1 0) more) where
  abbrev c : Catalogue
  c = catalogue_in w

  behind_moves : w2 ≡ c.used ∷ c.tally ∷ entry_words (take at c.places ++ e ∷ (take (len - at) (drop at c.places) ++ drop (suc len) c.places))
  behind_moves =
      let moved : w1 ≡ c.used ∷ c.tally ∷ entry_words (up_entries at len c.places) =
      first ∙ ap (λ (l : List ℕ). copy_within l (2 + 3 * at) (2 + 3 * len) (2 + 3 * at + 3)) (sym (words_back w fits)) ∙ up_words c.used c.tally at len c.places within in
      let inside : at < length c.places = omega (arith, places_64 w fits) in
      then
      ∙ ap (λ (l : List ℕ). sets l (2 + 3 * at) (entry_words (e ∷ []))) moved
      ∙ block_set c.used c.tally (up_entries at len c.places) at e
      ∙ ap (λ (l : List Entry). c.used ∷ c.tally ∷ entry_words l) (put_there at len e c.places inside)

  pub inserted_words : set (set w2 0 (len + 1)) 1 tally ≡ words_of (with_entry c e)
  inserted_words =
      ap (λ (l : List ℕ). set (set l 0 (len + 1)) 1 tally) behind_moves
      ∙ ap (λ (l : List Entry). (len + 1) ∷ tally ∷ entry_words l) (sym (puts_in c len at e is-len place within))
      ∙ ap (λ (n : ℕ). (n + 1) ∷ tally ∷ entry_words (inserted e (listing c) ++ drop (suc (size c)) c.places)) is-len
      ∙ ap (λ (n : ℕ). (size c + 1) ∷ n ∷ entry_words (inserted e (listing c) ++ drop (suc (size c)) c.places)) (kept ∙ ap (raised (get_or w 1 0)) adding ∙ ap (λ (n : ℕ). raised n (uses e.format)) (sym (tally_at w fits)))

-- An entry taken out: what the words come to. Assumes nothing.
use Rattle.std.proofs.Common.{◌≡◌, ℕ, suc, ◌+◌, ◌-◌, ◌*◌, ◌<◌, ◌≤◌, true, List, [], ◌∷◌, ◌++◌, length, get_or, take, drop, set, is_some, sym, ap, ◌∙◌, append_assoc, arith, length-append, length-drop, length-take-le, drop-cons}
use lib.Seq.{sets, set_at}
use Rattle.catalogue.specs.declared.entries.Entry.{Entry}
use Rattle.catalogue.specs.Entries.{without, uses}
use Rattle.catalogue.specs.Catalogue.{Catalogue, no_entry, listing, size, word_in, removed}
use Rattle.catalogue.specs.Block.{entry_words, words_of, catalogue_in}
use Rattle.std.specs.List.{copy_within}
use Rattle.catalogue.specs.Code.Search.{before}
use Rattle.catalogue.proofs.entries.Words.{words_back, places_64, block_set, tally_at, listed_size}
use Rattle.catalogue.proofs.entries.Place.{without_at, listed_within, listed_word}
use Rattle.catalogue.proofs.acts.Moving.{words_moved, listed_front, listed_behind}

-- the entries behind a place, up to the last one listed, each a place lower
abbrev down_entries : ℕ → ℕ → List Entry → List Entry
down_entries at last es = take at es ++ (take (last - at) (drop (suc at) es) ++ drop last es)

down_words : (u t at last : ℕ) (es : List Entry) → at ≤ last
    → copy_within (u ∷ t ∷ entry_words es) (2 + 3 * at + 3) (2 + 3 * last + 3) (2 + 3 * at) ≡ u ∷ t ∷ entry_words (down_entries at last es)
down_words u t at last es h =
    words_moved u t (suc at) (last - at) at last es (omega arith) (2 + 3 * at + 3) (2 + 3 * last + 3) (2 + 3 * at) (omega arith) (omega arith) (omega arith)

-- the place that the last one leaves is freed
free_there : (at last : ℕ) (e : Entry) (es : List Entry) → at ≤ last → last < length es
    → set (down_entries at last es) last e ≡ take at es ++ (take (last - at) (drop (suc at) es) ++ e ∷ drop (suc last) es)
free_there at last e es h inside =
    let a : List Entry = take at es in
    let b : List Entry = take (last - at) (drop (suc at) es) in
    let left : length (drop (suc at) es) ≡ length es - suc at = length-drop (suc at) es in
    let size_a : length a ≡ at = length-take-le at es (omega arith) in
    let size_b : length b ≡ last - at = length-take-le (last - at) (drop (suc at) es) (omega arith) in
    let both : length (a ++ b) ≡ last = length-append a b ∙ omega arith in
    ap (λ (l : List Entry). set (a ++ (b ++ l)) last e) (drop-cons es last no_entry inside)
    ∙ ap (λ (l : List Entry). set l last e) (sym (append_assoc a b (get_or es last no_entry ∷ drop (suc last) es)))
    ∙ set_at (a ++ b) (get_or es last no_entry) (drop (suc last) es) e last both
    ∙ append_assoc a b (e ∷ drop (suc last) es)

-- which is what the definition leaves
module _ (c : Catalogue) (len at n : ℕ) (is-len : len ≡ size c) (place : at ≡ before n (listing c)) (is : is_some (word_in c n) ≡ true) where
  abbrev es : List Entry
  es = c.places

  within : at < len
  within = omega (arith, listed_within c n at place is)

  pub takes_out : without n (listing c) ++ no_entry ∷ drop (size c) es ≡ take at es ++ (take (len - 1 - at) (drop (suc at) es) ++ no_entry ∷ drop (suc (len - 1)) es)
  takes_out =
      let one : suc (len - 1) ≡ size c = omega (arith, within) in
      let many : len - suc at ≡ len - 1 - at = omega arith in
      let front : take at (listing c) ≡ take at es = listed_front c len is-len at (omega (arith, within)) in
      let back : drop (suc at) (listing c) ≡ take (len - 1 - at) (drop (suc at) es) =
      listed_behind c len is-len (suc at) (omega (arith, within)) ∙ ap (λ (k : ℕ). take k (drop (suc at) es)) many in
      let spot : without n (listing c) ≡ take at (listing c) ++ drop (suc at) (listing c) =
      without_at n (listing c) is ∙ ap (λ (k : ℕ). take k (listing c) ++ drop (suc k) (listing c)) (sym place) in
      ap (λ (l : List Entry). l ++ no_entry ∷ drop (size c) es) (spot ∙ ap (λ (l : List Entry). l ++ drop (suc at) (listing c)) front ∙ ap (λ (l : List Entry). take at es ++ l) back)
      ∙ append_assoc (take at es) (take (len - 1 - at) (drop (suc at) es)) (no_entry ∷ drop (size c) es)
      ∙ ap (λ (k : ℕ). take at es ++ (take (len - 1 - at) (drop (suc at) es) ++ no_entry ∷ drop k es)) (sym one)

-- THE WORDS of `take_out`, by what each of its steps promises
module _ (w w1 w2 : List ℕ) (len at less tally n : ℕ) (gone : Entry)
    (fits : length w ≡ 194) (is-len : len ≡ size (catalogue_in w))
    (place : at ≡ before n (listing (catalogue_in w))) (is : is_some (word_in (catalogue_in w) n) ≡ true)
    (first : w1 ≡ copy_within w (2 + 3 * at + 3) (2 + 3 * (len - 1) + 3) (2 + 3 * at)) (then : w2 ≡ sets w1 (2 + 3 * (len - 1)) (entry_words (no_entry ∷ [])))
    (out : gone ≡ get_or (catalogue_in w).places at no_entry) (taking : less ≡ uses gone.format) (kept : tally ≡ get_or w 1 0 - less) where
  abbrev c : Catalogue
  c = catalogue_in w

  behind_moves : w2 ≡ c.used ∷ c.tally ∷ entry_words (without n (listing c) ++ no_entry ∷ drop (size c) c.places)
  behind_moves =
      let inside : at < len = omega (arith, listed_within c n at place is) in
      let few : len ≤ 64 = omega (arith, listed_size w fits) in
      let moved : w1 ≡ c.used ∷ c.tally ∷ entry_words (down_entries at (len - 1) c.places) =
      first ∙ ap (λ (l : List ℕ). copy_within l (2 + 3 * at + 3) (2 + 3 * (len - 1) + 3) (2 + 3 * at)) (sym (words_back w fits)) ∙ down_words c.used c.tally at (len - 1) c.places (omega arith) in
      then
      ∙ ap (λ (l : List ℕ). sets l (2 + 3 * (len - 1)) (entry_words (no_entry ∷ []))) moved
      ∙ block_set c.used c.tally (down_entries at (len - 1) c.places) (len - 1) no_entry
      ∙ ap (λ (l : List Entry). c.used ∷ c.tally ∷ entry_words l) (free_there at (len - 1) no_entry c.places (omega arith) (omega (arith, places_64 w fits)))
      ∙ ap (λ (l : List Entry). c.used ∷ c.tally ∷ entry_words l) (sym (takes_out c len at n is-len place is))

  pub removed_words : set (set w2 0 (len - 1)) 1 tally ≡ words_of (removed c n)
  unfolding removed
  removed_words =
      rw (listed_word c n at place is)
      (ap (λ (l : List ℕ). set (set l 0 (len - 1)) 1 tally) behind_moves
      ∙ ap (λ (k : ℕ). (k - 1) ∷ tally ∷ entry_words (without n (listing c) ++ no_entry ∷ drop (size c) c.places)) is-len
      ∙ ap (λ (k : ℕ). (size c - 1) ∷ k ∷ entry_words (without n (listing c) ++ no_entry ∷ drop (size c) c.places)) (kept ∙ ap (λ (k : ℕ). get_or w 1 0 - k) (taking ∙ ap (λ (e : Entry). uses e.format) out) ∙ ap (λ (k : ℕ). k - uses (get_or c.places at no_entry).format) (sym (tally_at w fits))))

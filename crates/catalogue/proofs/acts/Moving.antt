-- What an entry put in and one taken out share: entries moved within the words, and a listing as a part of the places. Assumes nothing.
use Rattle.std.proofs.Common.{◌≡◌, ℕ, suc, ◌+◌, ◌-◌, ◌*◌, ◌≤◌, List, ◌∷◌, ◌++◌, take, drop, sym, ap, ◌∙◌, append_assoc, arith, length-take, take-take}
use Rattle.std.proofs.lemmas.List.{drop-take, take_min}
use Rattle.std.specs.List.{copy_within}
use Rattle.catalogue.specs.declared.entries.Entry.{Entry}
use Rattle.catalogue.specs.Catalogue.{Catalogue, listing, size}
use Rattle.catalogue.specs.Block.{entry_words}
use Rattle.catalogue.proofs.entries.Words.{words_append, words_take, words_drop}

-- so many entries from a place on, moved to another place; those from their end on stay
pub words_moved : (u t at many to end : ℕ) (es : List Entry) → end ≡ to + many
    → (from past dest : ℕ) → from ≡ suc (suc (3 * at)) → past ≡ from + 3 * many → dest ≡ suc (suc (3 * to))
    → copy_within (u ∷ t ∷ entry_words es) from past dest ≡ u ∷ t ∷ entry_words (take to es ++ (take many (drop at es) ++ drop end es))
words_moved u t at many to end es reaches from past dest here on there =
    let size : past - from ≡ 3 * many = omega arith in
    let behind : dest + (past - from) ≡ suc (suc (3 * end)) = omega arith in
    append_assoc (take dest (u ∷ t ∷ entry_words es)) _ _
    ∙ rw (behind, size, there, here, words_take to es, words_drop at es, words_take many (drop at es), words_drop end es, ← words_append (take many (drop at es)) (drop end es), ← words_append (take to es) (take many (drop at es) ++ drop end es))

module _ (c : Catalogue) (len : ℕ) (is-len : len ≡ size c) (k : ℕ) (within : k ≤ len) where
  listing_is : listing c ≡ take len c.places
  listing_is = sym (take_min c.used c.places) ∙ ap (λ (n : ℕ). take n c.places) (sym (is-len ∙ length-take c.used c.places))

  -- the entries listed in front of a place, and from it on
  pub listed_front : take k (listing c) ≡ take k c.places
  listed_front = ap (λ (l : List Entry). take k l) listing_is ∙ take-take k len c.places within

  pub listed_behind : drop k (listing c) ≡ take (len - k) (drop k c.places)
  listed_behind =
      let whole : k + (len - k) ≡ len = omega arith in
      ap (λ (l : List Entry). drop k l) listing_is ∙ rw whole at (drop-take k (len - k) c.places)

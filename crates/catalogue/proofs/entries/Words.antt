-- A catalogue and the words that it is lent in tell the same: one law for all places, three words an entry. Assumes nothing.
use Rattle.std.proofs.Common.{◌≡◌, ℕ, zero, suc, ◌+◌, ◌*◌, min, List, [], ◌∷◌, ◌++◌, length, get_or, take, drop, set, sym, refl, ap, ◌∙◌, arith, length-take}
use lib.Seq.{sets}
use Rattle.catalogue.specs.declared.entries.Entry.{Entry}
use Rattle.catalogue.specs.Catalogue.{Catalogue, no_entry, size}
use Rattle.catalogue.specs.Block.{entry_words, entries_in, words_of, catalogue_in}

three : (k : ℕ) → 3 * suc k ≡ suc (suc (suc (3 * k)))
three k = omega arith

-- FROM WORDS TO ENTRIES AND BACK

entries_back : (k : ℕ) (w : List ℕ) → length w ≡ 3 * k → entry_words (entries_in w) ≡ w
entries_back zero [] e = refl
entries_back zero (a ∷ w) e = absurd (omega (arith, e))
entries_back (suc k) [] e = refl
entries_back (suc k) (a ∷ []) e = absurd (omega (arith, e))
entries_back (suc k) (a ∷ b ∷ []) e = absurd (omega (arith, e))
entries_back (suc k) (a ∷ b ∷ c ∷ w) e = ap (λ (r : List ℕ). a ∷ b ∷ c ∷ r) (entries_back k w (omega (arith, e)))

entries_length : (k : ℕ) (w : List ℕ) → length w ≡ 3 * k → length (entries_in w) ≡ k
entries_length zero [] e = refl
entries_length zero (a ∷ w) e = absurd (omega (arith, e))
entries_length (suc k) [] e = absurd (omega (arith, e))
entries_length (suc k) (a ∷ []) e = absurd (omega (arith, e))
entries_length (suc k) (a ∷ b ∷ []) e = absurd (omega (arith, e))
entries_length (suc k) (a ∷ b ∷ c ∷ w) e = ap suc (entries_length k w (omega (arith, e)))

-- a block of 194 words is a catalogue's
pub words_back : (w : List ℕ) → length w ≡ 194 → words_of (catalogue_in w) ≡ w
unfolding catalogue_in
words_back [] e = absurd (omega (arith, e))
words_back (a ∷ []) e = absurd (omega (arith, e))
words_back (a ∷ b ∷ w) e = ap (λ (r : List ℕ). a ∷ b ∷ r) (entries_back 64 w (omega (arith, e)))

-- with 64 places
pub places_64 : (w : List ℕ) → length w ≡ 194 → length (catalogue_in w).places ≡ 64
unfolding catalogue_in
places_64 [] e = absurd (omega (arith, e))
places_64 (a ∷ []) e = absurd (omega (arith, e))
places_64 (a ∷ b ∷ w) e = entries_length 64 w (omega (arith, e))

words_entries : (es : List Entry) → entries_in (entry_words es) ≡ es
words_entries [] = refl
words_entries (e ∷ es) = ap (λ (r : List Entry). e ∷ r) (words_entries es)

-- and a catalogue's words are that catalogue's
pub catalogue_back : (c : Catalogue) → catalogue_in (words_of c) ≡ c
unfolding catalogue_in
catalogue_back c = ap (λ (r : List Entry). record { used = c.used; tally = c.tally; places = r }) (words_entries c.places)

-- PARTS AND PLACES

pub words_append : (a b : List Entry) → entry_words (a ++ b) ≡ entry_words a ++ entry_words b
words_append [] b = refl
words_append (e ∷ a) b = ap (λ (r : List ℕ). e.school ∷ e.format.lo ∷ e.format.hi ∷ r) (words_append a b)

pub words_take : (k : ℕ) (es : List Entry) → take (3 * k) (entry_words es) ≡ entry_words (take k es)
words_take zero es = refl
words_take (suc k) [] = rw (three k)
words_take (suc k) (e ∷ es) = rw (three k) (ap (λ (r : List ℕ). e.school ∷ e.format.lo ∷ e.format.hi ∷ r) (words_take k es))

pub words_drop : (k : ℕ) (es : List Entry) → drop (3 * k) (entry_words es) ≡ entry_words (drop k es)
words_drop zero es = refl
words_drop (suc k) [] = rw (three k)
words_drop (suc k) (e ∷ es) = rw (three k) (words_drop k es)

pub school_at : (es : List Entry) (i : ℕ) → get_or (entry_words es) (3 * i) 0 ≡ (get_or es i no_entry).school
school_at [] i = refl
school_at (e ∷ es) zero = refl
school_at (e ∷ es) (suc i) = rw (three i) (school_at es i)

pub lo_at : (es : List Entry) (i : ℕ) → get_or (entry_words es) (suc (3 * i)) 0 ≡ (get_or es i no_entry).format.lo
lo_at [] i = refl
lo_at (e ∷ es) zero = refl
lo_at (e ∷ es) (suc i) = rw (three i) (lo_at es i)

pub hi_at : (es : List Entry) (i : ℕ) → get_or (entry_words es) (suc (suc (3 * i))) 0 ≡ (get_or es i no_entry).format.hi
hi_at [] i = refl
hi_at (e ∷ es) zero = refl
hi_at (e ∷ es) (suc i) = rw (three i) (hi_at es i)

pub words_set : (es : List Entry) (i : ℕ) (e : Entry) → sets (entry_words es) (3 * i) (entry_words (e ∷ [])) ≡ entry_words (set es i e)
words_set [] i e = refl
words_set (x ∷ es) zero e = refl
words_set (x ∷ es) (suc i) e = rw (three i) (ap (λ (r : List ℕ). x.school ∷ x.format.lo ∷ x.format.hi ∷ r) (words_set es i e))

-- behind the two words in front
pub block_set : (u t : ℕ) (es : List Entry) (i : ℕ) (e : Entry) → sets (u ∷ t ∷ entry_words es) (2 + 3 * i) (entry_words (e ∷ [])) ≡ u ∷ t ∷ entry_words (set es i e)
block_set u t es i e =
    let there : 2 + 3 * i ≡ suc (suc (3 * i)) = omega arith in
    rw there (ap (λ (l : List ℕ). u ∷ t ∷ l) (words_set es i e))

-- WHAT A BLOCK OF 194 WORDS HAS AT ITS PLACES

module _ (w : List ℕ) (fits : length w ≡ 194) where
  -- any word of the entries
  word_at : (k : ℕ) → get_or w (2 + k) 0 ≡ get_or (entry_words (catalogue_in w).places) k 0
  word_at k =
      let two : 2 + k ≡ suc (suc k) = omega arith in
      ap (λ (l : List ℕ). get_or l (2 + k) 0) (sym (words_back w fits)) ∙ ap (λ (n : ℕ). get_or (words_of (catalogue_in w)) n 0) two

  pub word_school : (i : ℕ) → get_or w (2 + 3 * i) 0 ≡ (get_or (catalogue_in w).places i no_entry).school
  word_school i = word_at (3 * i) ∙ school_at (catalogue_in w).places i

  pub word_lo : (i : ℕ) → get_or w (2 + 3 * i + 1) 0 ≡ (get_or (catalogue_in w).places i no_entry).format.lo
  word_lo i =
      let there : 2 + 3 * i + 1 ≡ 2 + suc (3 * i) = omega arith in
      ap (λ (k : ℕ). get_or w k 0) there ∙ word_at (suc (3 * i)) ∙ lo_at (catalogue_in w).places i

  pub word_hi : (i : ℕ) → get_or w (2 + 3 * i + 2) 0 ≡ (get_or (catalogue_in w).places i no_entry).format.hi
  word_hi i =
      let there : 2 + 3 * i + 2 ≡ 2 + suc (suc (3 * i)) = omega arith in
      ap (λ (k : ℕ). get_or w k 0) there ∙ word_at (suc (suc (3 * i))) ∙ hi_at (catalogue_in w).places i

  pub used_at : (catalogue_in w).used ≡ get_or w 0 0
  unfolding catalogue_in
  used_at = refl

  pub tally_at : (catalogue_in w).tally ≡ get_or w 1 0
  unfolding catalogue_in
  tally_at = refl

  -- no more are listed than there are places
  pub listed_size : size (catalogue_in w) ≡ min (get_or w 0 0) 64
  listed_size =
      length-take (catalogue_in w).used (catalogue_in w).places ∙ ap (λ (n : ℕ). min (catalogue_in w).used n) (places_64 w fits) ∙ ap (λ (n : ℕ). min n 64) used_at

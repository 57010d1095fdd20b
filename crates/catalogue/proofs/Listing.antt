-- THE THEOREMS of a catalogue, over every list of additions and removals from an empty one, refused ones included. Nothing is assumed.
use Rattle.std.proofs.Common.{◌≡◌, ℕ, ◌+◌, ◌<◌, Bool, true, false, cond, eqb, List, [], ◌∷◌, is_some, Some, None, Option, sym, refl, ap, ◌∙◌, arith, eq-eqb, ne_eqb, eqb-true}
use borrow.Author.Tests.{eqb-false}
use Rattle.word.specs.declared.format_flags.Format.{Format}
use Rattle.word.specs.Check.{full_check}
use Rattle.catalogue.specs.declared.entries.Entry.{Entry}
use Rattle.catalogue.specs.Entries.{entry_of, look_up, inserted, without, sum_of, count_over}
use Rattle.catalogue.specs.Catalogue.{Catalogue, listing, size, word_in, entry_in, add_number, remove_number, removed}
use Rattle.catalogue.specs.Acts.{Act, remove, number_for, after, catalogue_after, word_left, word_since, of_school, weight_of, ListedOnce}
use Rattle.catalogue.proofs.Sums.{sum_inserted, sum_without}
use Rattle.catalogue.proofs.Ascending.{looks_inserted_same, looks_inserted_other, looks_without_same, looks_without_other, row_looks, rows_ascend, looks_row}
use Rattle.catalogue.proofs.Histories.{Sound, sound, Effect, refused, put_in, taken_out, effect, listing_with, listing-without, fewer}
use Rattle.catalogue.proofs.acts.Answers.{accepted, unlisted}

-- THE TALLY: "After every list of additions and removals from an empty catalogue it equals the count over all entries"
pub tally_kept : (acts : List Act) → (catalogue_after acts).tally ≡ count_over (listing (catalogue_after acts))
tally_kept acts = (sound acts).tally

-- what an act leaves of a school's word, whatever was told of it before
abbrev word_behind : ℕ → Catalogue → Act → Option Format → Option Format
word_behind n c act before = cond (eqb (number_for c act) 0) (word_left n act before) before

-- THE LOOK-UP: a school is found with the word that it was added with and not removed since
look_after : (c : Catalogue) (act : Act) (n : ℕ) → Sound c → word_in (after c act) n ≡ word_behind n c act (word_in c n)
look_after c act n sound = go (effect c act) where
  go : {a : Act} → Effect c a → word_in (after c a) n ≡ word_behind n c a (word_in c n)
  go (refused {act = a} bad same) = rw (same, ne_eqb (number_for c a) 0 bad)
  go (put_in {n = m} {f} e fine is) = rw (is, eq-eqb (add_number c m f) 0 e, listing_with c (entry_of m f)) (by_school (eqb m n) refl) where
    by_school : (t : Bool) → eqb m n ≡ t → look_up n (inserted (entry_of m f) (listing c)) ≡ cond t (Some f) (look_up n (listing c))
    by_school true t = rw (← eqb-true m n t) (looks_inserted_same (entry_of m f) (listing c))
    by_school false t = looks_inserted_other n (entry_of m f) (listing c) (eqb-false m n t)
  go (taken_out {n = m} {f} e found is) = rw (is, eq-eqb (remove_number c m) 0 e, listing-without c m f found) (by_school (eqb m n) refl) where
    by_school : (t : Bool) → eqb m n ≡ t → look_up n (without m (listing c)) ≡ cond t None (look_up n (listing c))
    by_school true t = rw (← eqb-true m n t) (looks_without_same m (listing c) sound.ascends)
    by_school false t = looks_without_other m n (listing c) (eqb-false m n t) sound.ascends

pub found_since : (acts : List Act) (n : ℕ) → word_in (catalogue_after acts) n ≡ word_since n acts
found_since [] n = refl
found_since (act ∷ earlier) n =
    look_after (catalogue_after earlier) act n (sound earlier) ∙ ap (word_behind n (catalogue_after earlier) act) (found_since earlier n)

-- THE LISTING: exactly the schools added and not removed since, each once with its word
listed_after :
    (c : Catalogue) (act : Act) (n : ℕ) (weight : Format → ℕ) → sum_of (of_school n weight) (listing c) ≡ weight_of weight (word_in c n)
    → sum_of (of_school n weight) (listing (after c act)) ≡ weight_of weight (word_behind n c act (word_in c n))
listed_after c act n weight before = go (effect c act) where
  go : {a : Act} → Effect c a → sum_of (of_school n weight) (listing (after c a)) ≡ weight_of weight (word_behind n c a (word_in c n))
  go (refused {act = a} bad same) = rw (same, ne_eqb (number_for c a) 0 bad) before
  go (put_in {n = m} {f} e fine is) =
      rw (is, eq-eqb (add_number c m f) 0 e, listing_with c (entry_of m f), sum_inserted (of_school n weight) (entry_of m f) (listing c)) (by_school (eqb m n) refl) where
        unlisted : (o : Option Format) → is_some o ≡ false → weight_of weight o ≡ 0
        unlisted None is = refl
        unlisted (Some g) is = absurd cc

        by_school : (t : Bool) → eqb m n ≡ t → cond t (weight f) 0 + sum_of (of_school n weight) (listing c) ≡ weight_of weight (cond t (Some f) (word_in c n))
        by_school true t = omega (arith, before, unlisted (word_in c n) (rw (eqb-true m n t) at fine.new))
        by_school false t = omega (arith, before)
  go (taken_out {n = m} {f} e found is) = rw (is, eq-eqb (remove_number c m) 0 e, listing-without c m f found) (by_school (eqb m n) refl) where
    taken : sum_of (of_school n weight) (listing c) ≡ of_school n weight (entry_of m f) + sum_of (of_school n weight) (without m (listing c))
    taken = sum_without (of_school n weight) m f (listing c) found

    by_school : (t : Bool) → eqb m n ≡ t → sum_of (of_school n weight) (without m (listing c)) ≡ weight_of weight (cond t None (word_in c n))
    by_school true t =
        let own : word_in c n ≡ Some f = rw (eqb-true m n t) at found in
        let all : weight_of weight (word_in c n) ≡ weight f = ap (weight_of weight) own in
        let gone : sum_of (of_school n weight) (listing c) ≡ weight f + sum_of (of_school n weight) (without m (listing c)) = rw t at taken in
        omega (arith, before, all, gone)
    by_school false t =
        let gone : sum_of (of_school n weight) (listing c) ≡ 0 + sum_of (of_school n weight) (without m (listing c)) = rw t at taken in
        omega (arith, before, gone)

pub listed_once : (acts : List Act) → ListedOnce acts
listed_once [] n weight = refl
listed_once (act ∷ earlier) n weight =
    let so_far = listed_once earlier n weight ∙ ap (weight_of weight) (sym (found_since earlier n)) in
    listed_after (catalogue_after earlier) act n weight so_far
    ∙ ap (λ (o : Option Format). weight_of weight (word_behind n (catalogue_after earlier) act o)) (found_since earlier n)

-- The same a row at a time, as `entry` gives them: each row's school was added with its word and not removed since, each school that was has a
-- row, and no two rows have one school
pub row_since : (acts : List Act) (i : ℕ) (e : Entry) → entry_in (catalogue_after acts) i ≡ Some e → word_since e.school acts ≡ Some e.format
row_since acts i e row = sym (found_since acts e.school) ∙ row_looks (listing (catalogue_after acts)) i e (sound acts).ascends row

pub since_row : (acts : List Act) (n : ℕ) (f : Format) → word_since n acts ≡ Some f → (i : ℕ) × (entry_in (catalogue_after acts) i ≡ Some (entry_of n f))
since_row acts n f since = looks_row n f (listing (catalogue_after acts)) (found_since acts n ∙ since)

pub rows_apart : (acts : List Act) (i j : ℕ) (d e : Entry) → entry_in (catalogue_after acts) i ≡ Some d → entry_in (catalogue_after acts) j ≡ Some e → i < j → d.school < e.school
rows_apart acts i j d e first then h = rows_ascend (listing (catalogue_after acts)) i j d e (sound acts).ascends first then h

-- WHAT IS LISTED passed every test of its addition, so school 0 never is, and its removal is told by 27
pub since_valid : (acts : List Act) (n : ℕ) (f : Format) → word_since n acts ≡ Some f → (full_check f ≡ 0) × (n ≡ 0 → ⊥)
since_valid [] n f e = absurd cc
since_valid (act ∷ earlier) n f e = go (effect (catalogue_after earlier) act) (since_valid earlier n f) e where
  go :
      {a : Act} → Effect (catalogue_after earlier) a → (word_since n earlier ≡ Some f → (full_check f ≡ 0) × (n ≡ 0 → ⊥))
      → word_behind n (catalogue_after earlier) a (word_since n earlier) ≡ Some f → (full_check f ≡ 0) × (n ≡ 0 → ⊥)
  go (refused {act = a} bad same) rest known = rest (rw (ne_eqb (number_for (catalogue_after earlier) a) 0 bad) at known)
  go (put_in {n = m} {f = g} ok fine is) rest known = by_school (eqb m n) refl (rw (eq-eqb (add_number (catalogue_after earlier) m g) 0 ok) at known) where
    by_school : (t : Bool) → eqb m n ≡ t → cond t (Some g) (word_since n earlier) ≡ Some f → (full_check f ≡ 0) × (n ≡ 0 → ⊥)
    by_school true t found =
        let same : g ≡ f = cc in
        (sym (ap full_check same) ∙ fine.word, λ zero-school. fine.school (eqb-true m n t ∙ zero-school))
    by_school false t found = rest found
  go (taken_out {n = m} {f = g} ok found is) rest known = by_school (eqb m n) refl (rw (eq-eqb (remove_number (catalogue_after earlier) m) 0 ok) at known) where
    by_school : (t : Bool) → eqb m n ≡ t → cond t None (word_since n earlier) ≡ Some f → (full_check f ≡ 0) × (n ≡ 0 → ⊥)
    by_school true t left = absurd cc
    by_school false t left = rest left

pub zero_not_listed : (acts : List Act) → remove_number (catalogue_after acts) 0 ≡ 27
zero_not_listed acts = go (word_in (catalogue_after acts) 0) refl where
  go : (o : Option Format) → word_in (catalogue_after acts) 0 ≡ o → remove_number (catalogue_after acts) 0 ≡ 27
  go None e = (unlisted (catalogue_after acts) 0 (rw e)).0
  go (Some f) e = absurd ((since_valid acts 0 f (sym (found_since acts 0) ∙ e)).1 refl)

-- "Removal frees the place for any later school": behind an accepted one there is room for any school that is not listed
pub place_freed :
    (acts : List Act) (gone n : ℕ) (f : Format) → remove_number (catalogue_after acts) gone ≡ 0
    → full_check f ≡ 0 → (n ≡ 0 → ⊥) → is_some (word_in (catalogue_after (remove gone ∷ acts)) n) ≡ false → add_number (catalogue_after (remove gone ∷ acts)) n f ≡ 0
place_freed acts gone n f done valid school new =
    accepted (catalogue_after (remove gone ∷ acts)) n f valid school new (room (effect (catalogue_after acts) (remove gone))) where
      room : Effect (catalogue_after acts) (remove gone) → size (removed (catalogue_after acts) gone) < 64
      room (refused bad same) = absurd (bad done)
      room (taken_out {f = g} ok found is) = rw is (fewer (catalogue_after acts) gone g (sound acts) found)

-- What holds of the catalogue behind every list of additions and removals from an empty one: an act at a time. Assumes nothing.
use Rattle.std.proofs.Common.{◌≡◌, ℕ, suc, ◌+◌, ◌-◌, ◌<◌, ◌≤◌, Bool, true, false, cond, eqb, List, [], ◌∷◌, length, drop, is_some, Some, None, Option, refl, ap, ◌∙◌, arith, length-append, length-drop, length-take-le, take_at, lt-ltb, eqb-true}
use borrow.Author.Tests.{eqb-false}
use Rattle.word.specs.declared.format_flags.Format.{Format}
use Rattle.word.specs.Word.{digit_separator}
use Rattle.catalogue.specs.declared.entries.Entry.{Entry}
use Rattle.catalogue.specs.Entries.{entry_of, look_up, inserted, without, sum_of, uses, count_over}
use Rattle.catalogue.specs.Catalogue.{Catalogue, no_entry, empty_catalogue, listing, size, word_in, raised, with_entry, without_entry, add_number, added, remove_number, removed}
use Rattle.catalogue.specs.Acts.{Act, add, remove, number_for, after, catalogue_after}
use Rattle.catalogue.proofs.Sums.{sum_inserted, sum_without, sum_few}
use Rattle.catalogue.proofs.Ascending.{Ascending, ascends_inserted, ascends_without}
use Rattle.catalogue.proofs.Demand1.{Addable, addable}
use Rattle.catalogue.proofs.acts.Answers.{adds, refused_adds, removes, unlisted}

-- HOW MANY: a sum with weight 1
one_each : (l : List Entry) → sum_of (λ e. 1) l ≡ length l
one_each [] = refl
one_each (e ∷ l) = omega (arith, one_each l)

pub length_inserted : (e : Entry) (l : List Entry) → length (inserted e l) ≡ suc (length l)
length_inserted e l = omega (arith, one_each (inserted e l), one_each l, sum_inserted (λ x. 1) e l)

pub length_without : (n : ℕ) (f : Format) (l : List Entry) → look_up n l ≡ Some f → length l ≡ suc (length (without n l))
length_without n f l found = omega (arith, one_each l, one_each (without n l), sum_without (λ x. 1) n f l found)

-- THE LISTING BEHIND AN ACT

pub listing_with : (c : Catalogue) (e : Entry) → listing (with_entry c e) ≡ inserted e (listing c)
listing_with c e = take_at (inserted e (listing c)) _ (size c + 1) (omega (arith, length_inserted e (listing c)))

pub listing-without : (c : Catalogue) (n : ℕ) (f : Format) → word_in c n ≡ Some f → listing (without_entry c n f) ≡ without n (listing c)
listing-without c n f found = take_at (without n (listing c)) _ (size c - 1) (omega (arith, length_without n f (listing c) found))

-- THE INVARIANT

pub record Sound (c : Catalogue) : Type 0 where
  pub places : length c.places ≡ 64
  pub fits : c.used ≤ 64
  pub tally : c.tally ≡ count_over (listing c)
  pub ascends : Ascending (listing c)

sound_empty : Sound empty_catalogue
sound_empty = record { places = refl; fits = omega arith; tally = refl; ascends = tt }

pub uses-one : (e : Entry) → uses e.format ≤ 1
uses-one e = go (eqb (digit_separator e.format) 0) where
  go : (t : Bool) → cond t 0 1 ≤ 1
  go true = omega arith
  go false = omega arith

listed_not : (o : Option Format) → is_some o ≡ false → o ≡ None
listed_not None e = refl
listed_not (Some f) e = absurd cc

size_is : (c : Catalogue) → Sound c → size c ≡ c.used
size_is c sound = length-take-le c.used c.places (omega (arith, sound.places, sound.fits))

sound_with : (c : Catalogue) (e : Entry) → Sound c → word_in c e.school ≡ None → size c < 64 → Sound (with_entry c e)
sound_with c e sound new room =
    let many = length_inserted e (listing c) in
    let few : c.tally < 64 = omega (arith, sound.tally, sum_few (λ x. uses x.format) uses-one (listing c)) in
    let more : raised c.tally (uses e.format) ≡ c.tally + uses e.format = rw (lt-ltb c.tally 64 few) in
    record {
      places =
          length-append (inserted e (listing c)) (drop (suc (size c)) c.places)
          ∙ omega (arith, many, length-drop (suc (size c)) c.places, sound.places);
      fits = omega arith;
      tally =
          more ∙ omega (arith, sound.tally, ap count_over (listing_with c e), sum_inserted (λ x. uses x.format) e (listing c));
      ascends = rw (listing_with c e) (ascends_inserted e (listing c) new sound.ascends);
    }

sound_without : (c : Catalogue) (n : ℕ) (f : Format) → Sound c → word_in c n ≡ Some f → Sound (without_entry c n f)
sound_without c n f sound found =
    let many = length_without n f (listing c) found in
    record {
      places =
          length-append (without n (listing c)) (no_entry ∷ drop (size c) c.places)
          ∙ omega (arith, many, length-drop (size c) c.places, sound.places, size_is c sound, sound.fits);
      fits = omega (arith, size_is c sound, sound.fits);
      tally =
          omega (arith, sound.tally, ap count_over (listing-without c n f found), sum_without (λ x. uses x.format) n f (listing c) found);
      ascends = rw (listing-without c n f found) (ascends_without n (listing c) sound.ascends);
    }

-- one entry fewer leaves room
pub fewer : (c : Catalogue) (n : ℕ) (f : Format) → Sound c → word_in c n ≡ Some f → size (without_entry c n f) < 64
fewer c n f sound found =
    let many = length_without n f (listing c) found in
    let left = ap length (listing-without c n f found) in
    omega (arith, many, left, size_is c sound, sound.fits)

-- WHAT AN ACT DOES: it is refused and changes nothing, or puts an entry in, or takes one out

pub data Effect (c : Catalogue) : Act → Type 0 where
  refused : {act : Act} → (number_for c act ≡ 0 → ⊥) → after c act ≡ c → Effect c act
  put_in : {n : ℕ} {f : Format} → add_number c n f ≡ 0 → Addable c n f → added c n f ≡ with_entry c (entry_of n f) → Effect c (add n f)
  taken_out : {n : ℕ} {f : Format} → remove_number c n ≡ 0 → word_in c n ≡ Some f → removed c n ≡ without_entry c n f → Effect c (remove n)

takes_out : (c : Catalogue) (n : ℕ) (f : Format) → word_in c n ≡ Some f → removed c n ≡ without_entry c n f
unfolding removed
takes_out c n f found = rw found

pub effect : (c : Catalogue) (act : Act) → Effect c act
effect c (add n f) = go (eqb (add_number c n f) 0) refl where
  go : (t : Bool) → eqb (add_number c n f) 0 ≡ t → Effect c (add n f)
  go true t = let e = eqb-true (add_number c n f) 0 t in put_in e (addable c n f e) (adds c n f e)
  go false t = let e = eqb-false (add_number c n f) 0 t in refused e (refused_adds c n f e)
effect c (remove n) = by_word (word_in c n) refl where
  by_word : (o : Option Format) → word_in c n ≡ o → Effect c (remove n)
  by_word None e = let is : is_some (word_in c n) ≡ false = rw e in refused {act = remove n} (λ z. omega (arith, (unlisted c n is).0, z)) (unlisted c n is).1
  by_word (Some f) e = taken_out (removes c n (rw e)) e (takes_out c n f e)

sound_after : (c : Catalogue) (act : Act) → Sound c → Sound (after c act)
sound_after c act sound = go (effect c act) where
  go : {a : Act} → Effect c a → Sound (after c a)
  go (refused bad same) = rw same sound
  go (put_in {n} {f} e fine is) = rw is (sound_with c (entry_of n f) sound (listed_not (word_in c n) fine.new) fine.room)
  go (taken_out {n} {f} e found is) = rw is (sound_without c n f sound found)

pub sound : (acts : List Act) → Sound (catalogue_after acts)
sound [] = sound_empty
sound (act ∷ earlier) = sound_after (catalogue_after earlier) act (sound earlier)

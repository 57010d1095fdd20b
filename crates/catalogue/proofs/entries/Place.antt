-- The place of a school's entry: what is looked up, put in and taken out there. Assumes nothing.
use Rattle.std.proofs.Common.{◌≡◌, ℕ, suc, ◌+◌, ◌<◌, ◌≤◌, Bool, true, false, cond, eqb, ltb, List, [], ◌∷◌, ◌++◌, length, get_or, take, drop, is_some, Some, None, Option, sym, refl, ap, ◌∙◌, add-one, arith, drop_of_length-le, length-take, drop-cons, get_or-take, ltb-false, ltb-true, le-ltb, lt-ltb, eq-eqb, ne_eqb}
use Rattle.std.proofs.lemmas.Option.{slice_get-get_or, slice_get_past}
use Rattle.std.proofs.lemmas.Bool.{false≢true}
use Rattle.word.specs.declared.format_flags.Format.{Format}
use Rattle.catalogue.specs.declared.entries.Entry.{Entry}
use Rattle.catalogue.specs.Entries.{look_up, inserted, without}
use Rattle.catalogue.specs.Catalogue.{Catalogue, no_entry, listing, size, word_in, entry_in}
use Rattle.catalogue.specs.Code.Search.{before, Passed, StandsAt, BelongsAt}

pub before_within : (n : ℕ) (l : List Entry) → before n l ≤ length l
before_within n [] = omega arith
before_within n (e ∷ l) = go (ltb e.school n) (before_within n l) where
  go : (t : Bool) → before n l ≤ length l → cond t (suc (before n l)) 0 ≤ suc (length l)
  go true h = omega arith
  go false h = omega arith

-- the entry is put in at its place
pub inserted_at : (e : Entry) (l : List Entry) → inserted e l ≡ take (before e.school l) l ++ e ∷ drop (before e.school l) l
inserted_at e [] = refl
inserted_at e (x ∷ l) = go (ltb x.school e.school) (inserted_at e l) where
  go :
      (t : Bool) → inserted e l ≡ take (before e.school l) l ++ e ∷ drop (before e.school l) l
      → cond t (x ∷ inserted e l) (e ∷ x ∷ l)
      ≡ take (cond t (suc (before e.school l)) 0) (x ∷ l) ++ e ∷ drop (cond t (suc (before e.school l)) 0) (x ∷ l)
  go true h = ap (λ (r : List Entry). x ∷ r) h
  go false h = refl

-- what is looked up there
abbrev pub seen_at : ℕ → List Entry → Option Format
seen_at n [] = None
seen_at n (e ∷ rest) = cond (eqb e.school n) (Some e.format) None

pub looked_up_at : (n : ℕ) (l : List Entry) → look_up n l ≡ seen_at n (drop (before n l) l)
looked_up_at n [] = refl
looked_up_at n (e ∷ l) = go (ltb e.school n) (looked_up_at n l) where
  go :
      (t : Bool) → look_up n l ≡ seen_at n (drop (before n l) l)
      → cond t (look_up n l) (cond (eqb e.school n) (Some e.format) None) ≡ seen_at n (drop (cond t (suc (before n l)) 0) (e ∷ l))
  go true h = h
  go false h = refl

-- a listed school's entry is taken out there
pub without_at : (n : ℕ) (l : List Entry) → is_some (look_up n l) ≡ true → without n l ≡ take (before n l) l ++ drop (suc (before n l)) l
without_at n [] is = absurd cc
without_at n (e ∷ l) is = go (ltb e.school n) (eqb e.school n) (without_at n l) is where
  go :
      (t u : Bool) → (is_some (look_up n l) ≡ true → without n l ≡ take (before n l) l ++ drop (suc (before n l)) l)
      → is_some (cond t (look_up n l) (cond u (Some e.format) None)) ≡ true
      → cond t (e ∷ without n l) (cond u l (e ∷ l))
      ≡ take (cond t (suc (before n l)) 0) (e ∷ l) ++ drop (suc (cond t (suc (before n l)) 0)) (e ∷ l)
  go true u rest is = ap (λ (r : List Entry). e ∷ r) (rest is)
  go false true rest is = refl
  go false false rest is = absurd cc

-- the entry at a place of the listing is the one that stands there
pub listed_here : (c : Catalogue) (i : ℕ) → i < size c → drop i (listing c) ≡ get_or c.places i no_entry ∷ drop (suc i) (listing c)
listed_here c i h =
    let inside : i < c.used = omega (arith, length-take c.used c.places) in
    drop-cons (listing c) i no_entry h ∙ ap (λ (e : Entry). e ∷ drop (suc i) (listing c)) (get_or-take c.used c.places i no_entry inside)

-- THE SEARCH, at each turn
module _ (c : Catalogue) (n at school : ℕ) (passed : Passed c n at) where
  pub passed_over : at < size c → school ≡ (get_or c.places at no_entry).school → school < n → Passed c n (at + 1)
  passed_over h here less =
      let on : at + 1 ≡ suc at = add-one at in
      let test : ltb (get_or c.places at no_entry).school n ≡ true = lt-ltb _ _ (rw here at less) in
      let one : before n (drop at (listing c)) ≡ suc (before n (drop (suc at) (listing c))) = rw (listed_here c at h, test) in
      record { within = omega arith; smaller = rw on (passed.smaller ∙ omega (arith, one)) }

  pub stops_here : at < size c → school ≡ (get_or c.places at no_entry).school → n ≤ school → at ≡ before n (listing c)
  stops_here h here more =
      let test : ltb (get_or c.places at no_entry).school n ≡ false = le-ltb _ _ (rw here at more) in
      let zero_here : before n (drop at (listing c)) ≡ 0 = rw (listed_here c at h, test) in
      omega (arith, passed.smaller, zero_here)

-- WHAT STANDS THERE
module _ (c : Catalogue) (n at : ℕ) (place : at ≡ before n (listing c)) where
  looked_up_lem : word_in c n ≡ seen_at n (drop at (listing c))
  looked_up_lem = looked_up_at n (listing c) ∙ ap (λ (k : ℕ). seen_at n (drop k (listing c))) (sym place)

  pub stands_there : at < size c → is_some (word_in c n) ≡ eqb (get_or c.places at no_entry).school n
  stands_there h = rw (looked_up_lem, listed_here c at h) (by_cases (eqb (get_or c.places at no_entry).school n)) where
    by_cases : (t : Bool) → is_some (cond t (Some (get_or c.places at no_entry).format) None) ≡ t
    by_cases true = refl
    by_cases false = refl

  pub stands_nowhere : size c ≤ at → is_some (word_in c n) ≡ false
  stands_nowhere h = rw (looked_up_lem, drop_of_length-le (listing c) h)

  -- of a listed school
  module _ (is : is_some (word_in c n) ≡ true) where
    pub listed_within : at < size c
    listed_within = go (ltb at (size c)) refl where
      go : (t : Bool) → ltb at (size c) ≡ t → at < size c
      go true t = ltb-true at (size c) t
      go false t = absurd (false≢true (sym (stands_nowhere (ltb-false at (size c) t)) ∙ is))

    pub listed_word : word_in c n ≡ Some (get_or c.places at no_entry).format
    listed_word =
        let test : eqb (get_or c.places at no_entry).school n ≡ true = sym (stands_there listed_within) ∙ is in
        rw (looked_up_lem, listed_here c at listed_within, test)

-- what the search tells
module _ (c : Catalogue) (n at : ℕ) (place : at ≡ before n (listing c)) where
  pub stands : (school : ℕ) → at < size c → school ≡ (get_or c.places at no_entry).school → school ≡ n → StandsAt c n at
  stands school h here own =
      record { within = h; place = place; listed = stands_there c n at place h ∙ eq-eqb _ _ (sym here ∙ own) }

  pub stands_not : (school : ℕ) → at < size c → school ≡ (get_or c.places at no_entry).school → (school ≡ n → ⊥) → BelongsAt c n at
  stands_not school h here other =
      record { within = omega arith; place = place; unlisted = stands_there c n at place h ∙ ne_eqb _ _ (λ own. other (here ∙ own)) }

  pub stands_last : size c ≡ at → BelongsAt c n at
  stands_last last =
      record { within = omega arith; place = place; unlisted = stands_nowhere c n at place (omega arith) }

-- THE ENTRY that a listing has at a place
pub row_listed : (c : Catalogue) (i : ℕ) → i < size c → Some (get_or c.places i no_entry) ≡ entry_in c i
row_listed c i h =
    let listed : i < c.used = omega (arith, length-take c.used c.places) in
    ap Some (sym (get_or-take c.used c.places i no_entry listed)) ∙ sym (slice_get-get_or (listing c) i no_entry h)

pub row_none : (c : Catalogue) (i : ℕ) → size c ≤ i → None ≡ entry_in c i
row_none c i h = sym (slice_get_past (listing c) i h)

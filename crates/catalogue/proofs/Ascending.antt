-- Entries that ascend by school number, and what is looked up in them behind an addition and a removal. Assumes nothing.
use Rattle.std.proofs.Common.{◌≡◌, ℕ, zero, suc, ◌<◌, ◌≤◌, Bool, true, false, cond, eqb, ltb, List, [], ◌∷◌, slice_get, Some, None, sym, refl, ap, ◌∙◌, arith, ltb-false, ltb-true, le-ltb, lt-ltb, eq-eqb, ne_eqb, eqb-true}
use borrow.Author.Tests.{eqb-false}
use Rattle.word.specs.declared.format_flags.Format.{Format}
use Rattle.catalogue.specs.declared.entries.Entry.{Entry}
use Rattle.catalogue.specs.Entries.{entry_of, look_up, inserted, without}

-- every entry has a larger number
abbrev pub AllAbove : ℕ → List Entry → Type 0
AllAbove n [] = Unit {0}
AllAbove n (e ∷ l) = (n < e.school) × AllAbove n l

abbrev pub Ascending : List Entry → Type 0
Ascending [] = Unit {0}
Ascending (e ∷ l) = AllAbove e.school l × Ascending l

above_less : (m n : ℕ) (l : List Entry) → m ≤ n → AllAbove n l → AllAbove m l
above_less m n [] h above = tt
above_less m n (e ∷ l) h above = (omega (arith, above.0), above_less m n l h above.1)

-- what is not above is not there
above_none : (m n : ℕ) (l : List Entry) → m ≤ n → AllAbove n l → look_up m l ≡ None
above_none m n [] h above = refl
above_none m n (e ∷ l) h above =
    rw (le-ltb e.school m (omega (arith, above.0)), ne_eqb e.school m (λ same. omega (arith, above.0, same)))

-- THE THREE CASES of an entry beside a number
pub by_order : {A : Type 0} (a n : ℕ) → (ltb a n ≡ true → A) → (ltb a n ≡ false → eqb a n ≡ true → A) → (ltb a n ≡ false → eqb a n ≡ false → A) → A
by_order {A} a n less same more = go (ltb a n) (eqb a n) refl refl where
  go : (t u : Bool) → ltb a n ≡ t → eqb a n ≡ u → A
  go true u t e = less t
  go false true t e = same t e
  go false false t e = more t e

-- AN ADDITION

above_inserted : (n : ℕ) (e : Entry) (l : List Entry) → n < e.school → AllAbove n l → AllAbove n (inserted e l)
above_inserted n e [] h above = (h, tt)
above_inserted n e (x ∷ l) h above = go (ltb x.school e.school) (above_inserted n e l h above.1) where
  go : (t : Bool) → AllAbove n (inserted e l) → AllAbove n (cond t (x ∷ inserted e l) (e ∷ x ∷ l))
  go true rest = (above.0, rest)
  go false rest = (h, above)

pub ascends_inserted : (e : Entry) (l : List Entry) → look_up e.school l ≡ None → Ascending l → Ascending (inserted e l)
ascends_inserted e [] new up = (tt, tt)
ascends_inserted e (x ∷ l) new up = by_order x.school e.school (smaller (ascends_inserted e l)) same larger where
  smaller : (look_up e.school l ≡ None → Ascending l → Ascending (inserted e l)) → ltb x.school e.school ≡ true → Ascending (inserted e (x ∷ l))
  smaller rest t = rw t (above_inserted x.school e l (ltb-true x.school e.school t) up.0, rest (rw t at new) up.1)

  same : ltb x.school e.school ≡ false → eqb x.school e.school ≡ true → Ascending (inserted e (x ∷ l))
  same t u = absurd (let found : Some x.format ≡ None = rw (t, u) at new in cc)

  larger : ltb x.school e.school ≡ false → eqb x.school e.school ≡ false → Ascending (inserted e (x ∷ l))
  larger t u =
      let over : e.school < x.school = omega (arith, ltb-false x.school e.school t, eqb-false x.school e.school u) in
      rw t ((over, above_less e.school x.school l (omega arith) up.0), up)

pub looks_inserted_same : (e : Entry) (l : List Entry) → look_up e.school (inserted e l) ≡ Some e.format
looks_inserted_same e [] = rw (le-ltb e.school e.school (omega arith), eq-eqb e.school e.school refl)
looks_inserted_same e (x ∷ l) = go (ltb x.school e.school) refl (looks_inserted_same e l) where
  go : (t : Bool) → ltb x.school e.school ≡ t → look_up e.school (inserted e l) ≡ Some e.format
      → look_up e.school (cond t (x ∷ inserted e l) (e ∷ x ∷ l)) ≡ Some e.format
  go true t rest = rw t rest
  go false t rest = rw (le-ltb e.school e.school (omega arith), eq-eqb e.school e.school refl)

pub looks_inserted_other : (n : ℕ) (e : Entry) (l : List Entry) → (e.school ≡ n → ⊥) → look_up n (inserted e l) ≡ look_up n l
looks_inserted_other n e [] other = by_order e.school n (λ t. rw t) (λ t u. absurd (other (eqb-true e.school n u))) (λ t u. rw (t, u))
looks_inserted_other n e (x ∷ l) other = go (ltb x.school e.school) refl (looks_inserted_other n e l other) where
  go : (t : Bool) → ltb x.school e.school ≡ t → look_up n (inserted e l) ≡ look_up n l
      → look_up n (cond t (x ∷ inserted e l) (e ∷ x ∷ l)) ≡ look_up n (x ∷ l)
  go true t rest = rw rest
  go false t rest = by_order e.school n (λ s. rw s) (λ s u. absurd (other (eqb-true e.school n u))) behind where
    behind : ltb e.school n ≡ false → eqb e.school n ≡ false → look_up n (e ∷ x ∷ l) ≡ look_up n (x ∷ l)
    behind s u =
        let over : n < x.school = omega (arith, ltb-false e.school n s, eqb-false e.school n u, ltb-false x.school e.school t) in
        rw (s, u, le-ltb x.school n (omega arith), ne_eqb x.school n (λ same. omega (arith, same)))

-- A REMOVAL

above_without : (m n : ℕ) (l : List Entry) → AllAbove m l → AllAbove m (without n l)
above_without m n [] above = tt
above_without m n (x ∷ l) above = go (ltb x.school n) (eqb x.school n) (above_without m n l above.1) where
  go : (t u : Bool) → AllAbove m (without n l) → AllAbove m (cond t (x ∷ without n l) (cond u l (x ∷ l)))
  go true u rest = (above.0, rest)
  go false true rest = above.1
  go false false rest = above

pub ascends_without : (n : ℕ) (l : List Entry) → Ascending l → Ascending (without n l)
ascends_without n [] up = tt
ascends_without n (x ∷ l) up = go (ltb x.school n) (eqb x.school n) (ascends_without n l up.1) where
  go : (t u : Bool) → Ascending (without n l) → Ascending (cond t (x ∷ without n l) (cond u l (x ∷ l)))
  go true u rest = (above_without x.school n l up.0, rest)
  go false true rest = up.1
  go false false rest = up

pub looks_without_same : (n : ℕ) (l : List Entry) → Ascending l → look_up n (without n l) ≡ None
looks_without_same n [] up = refl
looks_without_same n (x ∷ l) up = by_order x.school n (smaller (looks_without_same n l up.1)) same larger where
  smaller : look_up n (without n l) ≡ None → ltb x.school n ≡ true → look_up n (without n (x ∷ l)) ≡ None
  smaller rest t = rw (t, t) rest

  same : ltb x.school n ≡ false → eqb x.school n ≡ true → look_up n (without n (x ∷ l)) ≡ None
  same t u = rw (t, u) (above_none n x.school l (omega (arith, eqb-true x.school n u)) up.0)

  larger : ltb x.school n ≡ false → eqb x.school n ≡ false → look_up n (without n (x ∷ l)) ≡ None
  larger t u = rw (t, u, t, u)

pub looks_without_other : (m n : ℕ) (l : List Entry) → (m ≡ n → ⊥) → Ascending l → look_up n (without m l) ≡ look_up n l
looks_without_other m n [] other up = refl
looks_without_other m n (x ∷ l) other up = by_order x.school m (smaller (looks_without_other m n l other up.1)) same larger where
  smaller : look_up n (without m l) ≡ look_up n l → ltb x.school m ≡ true → look_up n (without m (x ∷ l)) ≡ look_up n (x ∷ l)
  smaller rest t = rw (t, rest)

  same : ltb x.school m ≡ false → eqb x.school m ≡ true → look_up n (without m (x ∷ l)) ≡ look_up n (x ∷ l)
  same t u =
      let is : x.school ≡ m = eqb-true x.school m u in
      rw (t, u) (by_order x.school n (λ s. rw s) (λ s v. absurd (other (sym is ∙ eqb-true x.school n v))) (λ s v. rw (s, v) (above_none n x.school l (ltb-false x.school n s) up.0)))

  larger : ltb x.school m ≡ false → eqb x.school m ≡ false → look_up n (without m (x ∷ l)) ≡ look_up n (x ∷ l)
  larger t u = rw (t, u)

-- A ROW: the entry that a listing has at a place

above_row : (n : ℕ) (l : List Entry) (i : ℕ) (e : Entry) → AllAbove n l → slice_get l i ≡ Some e → n < e.school
above_row n [] i e above row = absurd cc
above_row n (x ∷ l) zero e above row = let same : x ≡ e = cc in omega (arith, above.0, ap (λ (y : Entry). y.school) same)
above_row n (x ∷ l) (suc i) e above row = above_row n l i e above.1 row

-- it is what is looked up for its school
pub row_looks : (l : List Entry) (i : ℕ) (e : Entry) → Ascending l → slice_get l i ≡ Some e → look_up e.school l ≡ Some e.format
row_looks [] i e up row = absurd cc
row_looks (x ∷ l) zero e up row =
    let same : x ≡ e = cc in
    rw (same, le-ltb e.school e.school (omega arith), eq-eqb e.school e.school refl)
row_looks (x ∷ l) (suc i) e up row = rw (lt-ltb x.school e.school (above_row x.school l i e up.0 row)) (row_looks l i e up.1 row)

-- rows further on have larger numbers
pub rows_ascend : (l : List Entry) (i j : ℕ) (d e : Entry) → Ascending l → slice_get l i ≡ Some d → slice_get l j ≡ Some e → i < j → d.school < e.school
rows_ascend [] i j d e up first then h = absurd cc
rows_ascend (x ∷ l) i zero d e up first then h = absurd (omega arith)
rows_ascend (x ∷ l) zero (suc j) d e up first then h =
    let same : x ≡ d = cc in
    omega (arith, above_row x.school l j e up.0 then, ap (λ (y : Entry). y.school) same)
rows_ascend (x ∷ l) (suc i) (suc j) d e up first then h = rows_ascend l i j d e up.1 first then (omega arith)

-- what is looked up stands in a row
pub looks_row : (n : ℕ) (f : Format) (l : List Entry) → look_up n l ≡ Some f → (i : ℕ) × (slice_get l i ≡ Some (entry_of n f))
looks_row n f [] found = absurd cc
looks_row n f (x ∷ l) found = by_order x.school n (smaller (looks_row n f l)) same larger where
  smaller : (look_up n l ≡ Some f → (i : ℕ) × (slice_get l i ≡ Some (entry_of n f))) → ltb x.school n ≡ true → (i : ℕ) × (slice_get (x ∷ l) i ≡ Some (entry_of n f))
  smaller rest t = let row = rest (rw t at found) in (suc row.0, row.1)

  same : ltb x.school n ≡ false → eqb x.school n ≡ true → (i : ℕ) × (slice_get (x ∷ l) i ≡ Some (entry_of n f))
  same t u =
      let word : Some x.format ≡ Some f = rw (t, u) at found in
      let is : x.format ≡ f = cc in
      (0, ap Some (ap (λ (k : ℕ). entry_of k x.format) (eqb-true x.school n u) ∙ ap (entry_of n) is))

  larger : ltb x.school n ≡ false → eqb x.school n ≡ false → (i : ℕ) × (slice_get (x ∷ l) i ≡ Some (entry_of n f))
  larger t u = absurd (let none_there : None ≡ Some f = rw (t, u) at found in cc)

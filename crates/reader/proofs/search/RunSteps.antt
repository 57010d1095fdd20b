-- Steps over separators, of any width: for the loops of the search. Assumes nothing.
use Rattle.std.proofs.Common.{◌≡◌, ℕ, zero, suc, ◌+◌, ◌-◌, ◌*◌, ◌/◌, ◌%◌, ◌<◌, ◌≤◌, Bool, true, false, leb, List, [], ◌∷◌, length, get_or, take, drop, replicate, sym, refl, ap, ◌∙◌, add-zero, zero-add, mul-add, arith, length-drop, drop_of_length-le, drop-cons, drop-drop, leb-false, leb-true}
use native.Mathlib.Nat.{mul-add-div, div-eq_of_lt}
use Rattle.reader.specs.Place.{is_separator, separator_run}
use Rattle.reader.specs.Search.{run_search_of}
use Rattle.reader.proofs.passing.Places.{is_separator_lem, no_separator_at_all, run_end}
use Rattle.reader.proofs.passing.Passed.{run_fits, separator_is}

-- n separators at the start of a list are the run's first
run_past : (separator n : ℕ) (l : List ℕ) → 0 < separator → take n l ≡ replicate n separator
    → separator_run separator l ≡ n + separator_run separator (drop n l)
run_past separator zero l positive e = sym (zero-add (separator_run separator l))
run_past separator (suc n) [] positive e = absurd (cc)
run_past separator (suc n) (b ∷ l) positive e =
    let first : b ≡ separator = cc in
    let rest : take n l ≡ replicate n separator = cc in
    rw (is_separator_lem separator b positive first) (omega (arith, run_past separator n l positive rest))

run_begins : (separator n : ℕ) (l : List ℕ) → n ≤ separator_run separator l → take n l ≡ replicate n separator
run_begins separator zero l long = refl
run_begins separator (suc n) [] long = absurd (omega arith)
run_begins separator (suc n) (b ∷ l) long = go (is_separator separator b) refl (run_begins separator n l) where
  go : (t : Bool) → is_separator separator b ≡ t → (n ≤ separator_run separator l → take n l ≡ replicate n separator)
      → take (suc n) (b ∷ l) ≡ replicate (suc n) separator
  go true t rest = rw (separator_is separator b t, rest (omega (arith, rw t at long)))
  go false t rest = absurd (omega (arith, rw t at long))

module _ (separator : ℕ) (s : List ℕ) where
  abbrev run : ℕ → ℕ
  run place = separator_run separator (drop place s)

  -- one byte is a step's width too
  module _ (place : ℕ) (inside : place < length s) where
    pub one_separator : get_or s place 0 ≡ separator → take 1 (drop place s) ≡ replicate 1 separator
    one_separator same = rw (drop-cons s place 0 inside, same)

    pub one_other : (get_or s place 0 ≡ separator → ⊥) → take 1 (drop place s) ≡ replicate 1 separator → ⊥
    one_other differ same = differ (let cut : take 1 (drop place s) ≡ get_or s place 0 ∷ [] = rw (drop-cons s place 0 inside) in cc)

  -- From `at` so many steps of width n, over separators alone, have come to a place.
  pub record Stepping (n at place steps : ℕ) : Type 0 where
    pub stands : place ≡ at + n * steps
    pub inside : place ≤ length s
    pub same_end : run_end separator s place ≡ run_end separator s at

  pub stepping_starts : (n at : ℕ) → at ≤ length s → Stepping n at at 0
  stepping_starts n at h = record { stands = omega arith; inside = h; same_end = refl }

  module _ (n at place steps : ℕ) (here : Stepping n at place steps) where
    pub stepping_on : 0 < separator → place + n ≤ length s → take n (drop place s) ≡ replicate n separator → Stepping n at (place + n) (steps + 1)
    stepping_on positive room same =
        let past : run place ≡ n + run (place + n) = run_past separator n (drop place s) positive same ∙ ap (λ (l : List ℕ). n + separator_run separator l) (drop-drop n place s) in
        record {
          stands = rw mul-add (omega (arith, here.stands));
          inside = room;
          same_end = omega (arith, here.same_end, past);
        }

    -- the last step is behind where fewer than n separators are left
    stops : 0 < n → run place < n → steps ≡ run at / n
    stops positive few =
        let all : run at ≡ n * steps + run place = omega (arith, here.stands, here.same_end) in
        rw (all, mul-add-div positive, div-eq_of_lt few) (omega arith)

    pub stops_on_other : 0 < n → (take n (drop place s) ≡ replicate n separator → ⊥) → steps ≡ run at / n
    stops_on_other positive differ = stops positive (go (leb n (run place)) refl) where
      go : (t : Bool) → leb n (run place) ≡ t → run place < n
      go true t = absurd (differ (run_begins separator n (drop place s) (leb-true _ _ t)))
      go false t = leb-false _ _ t

    pub stops_near_end : 0 < n → length s - place < n → steps ≡ run at / n
    stops_near_end positive near = stops positive (omega (arith, run_fits separator (drop place s), length-drop place s))

  -- Steps over eight bytes and then over one come to the end of the run, whose remainder is gone over singly.
  pub all_steps : (at eights tail ones end : ℕ) → 0 < separator → eights ≡ run at / 8 → tail ≡ at + 8 * eights → ones ≡ run tail → end ≡ tail + ones
      → record { end = end; eights = eights; ones = ones } ≡ run_search_of separator s at
  all_steps at eights tail ones end positive by-eight stands rest ends =
      let past = run_past separator (8 * eights) (drop at s) positive (run_begins separator (8 * eights) (drop at s) (omega arith)) in
      let behind : run at ≡ 8 * eights + run tail =
      past ∙ ap (λ (l : List ℕ). 8 * eights + separator_run separator l) (drop-drop (8 * eights) at s ∙ ap (λ (k : ℕ). drop k s) (sym stands)) in
      let to : end ≡ at + run at = omega arith in
      let left : ones ≡ run at % 8 = omega arith in
      rw (to, left, by-eight)

  -- no separator, or no byte: no step
  no_run : (at : ℕ) → run at ≡ 0 → record { end = at; eights = 0; ones = 0 } ≡ run_search_of separator s at
  no_run at e = rw (e, add-zero at)

  pub no_separator_sought : (at : ℕ) → separator ≡ 0 → record { end = at; eights = 0; ones = 0 } ≡ run_search_of separator s at
  no_separator_sought at unset = no_run at (none_of (drop at s)) where
    none_of : (l : List ℕ) → separator_run separator l ≡ 0
    none_of [] = refl
    none_of (b ∷ l) = rw (no_separator_at_all separator b unset)

  pub nothing_left : (at : ℕ) → length s ≤ at → record { end = at; eights = 0; ones = 0 } ≡ run_search_of separator s at
  nothing_left at out = no_run at (rw (drop_of_length-le s out))

-- Takes come to the end of a run that is refused one by one, so the loop may go there at once. For the proof of `take_run`. Assumes
-- nothing.
use Rattle.std.proofs.Common.{◌≡◌, ℕ, zero, suc, ◌+◌, ◌-◌, ◌<◌, Bool, true, false, cond, not, ◌&&◌, ◌||◌, eqb, List, length, get_or, drop, sym, refl, ◌∙◌, ⊎_elim, eq-zero-or-pos, add-one, arith, drop-cons, eq-eqb, ne_eqb, eqb-true}
use Rattle.std.proofs.lemmas.Bool.{and_parts, false≢true}
use Rattle.reader.specs.Place.{separator_run}
use Rattle.reader.specs.Reading.{Reading, may_pass, passed_at}
use Rattle.reader.specs.Code.TakeSums.{count_behind, lands_at}
use Rattle.reader.proofs.passing.Places.{is_separator_lem}
use Rattle.reader.proofs.passing.RefusedRuns.{inside, begins, positive, refused-first, refused_next, refused_stays}
use Rattle.reader.proofs.passing.Passed.{separator_is}
use Rattle.reader.proofs.skip.SumsLoop.{Summing, summing_on}

-- a count that stays, or that is above 0 and grows, stays first or later
first_stays : (t : Bool) (count : ℕ) → (t ≡ true → 0 < count) → eqb (cond t (count + 1) count) 0 ≡ eqb count 0
first_stays true count above = ne_eqb (count + 1) 0 (λ z. omega arith) ∙ sym (ne_eqb count 0 (λ z. let p = above refl in omega arith))
first_stays false count above = refl

above_stays : (t : Bool) (count : ℕ) → (t ≡ true → 0 < count) → t ≡ true → 0 < cond t (count + 1) count
above_stays true count above e = omega arith
above_stays false count above e = absurd (false≢true e)

one_more : (t : Bool) (count k : ℕ) → cond t (cond t (count + 1) count + suc k) (cond t (count + 1) count) ≡ cond t (count + suc (suc k)) count
one_more true count k = omega arith
one_more false count k = refl

module _
    (m : Reading)
    (s : List ℕ)
    (counts : Bool)
    (start counted passed : ℕ)
    (consecutive : m.flags.consecutive ≡ true)
  where
    -- whether a separator that is taken is counted
    abbrev counted_too : Bool
    counted_too = counts && m.digit m.separator

    take_one : (at k count : ℕ) → separator_run m.separator (drop at s) ≡ suc k → may_pass m s (eqb count 0) at ≡ false
        → Summing m s counts start counted at count passed → Summing m s counts start counted (suc at) (cond counted_too (count + 1) count) passed
    take_one at k count e refused here =
        let none_passed : passed + (at - at) ≡ passed = omega arith in
        let h = inside m.separator s at k e in
        let b = separator_is m.separator (get_or s at 0) (begins m.separator s at k e).0 in
        let on = summing_on m s counts start counted at count passed here at (refused_stays m s consecutive (eqb count 0) at refused) h in
        rw add-one at (rw (b, none_passed) at on)

    -- Takes come from a separator that is refused to the end of its run.
    take_rest : (k at count : ℕ) → (counted_too ≡ true → 0 < count) → separator_run m.separator (drop at s) ≡ suc k → may_pass m s (eqb count 0) at ≡ false
        → Summing m s counts start counted at count passed → Summing m s counts start counted (at + suc k) (cond counted_too (count + suc k) count) passed
    take_rest zero at count above e refused here =
        let same : at + 1 ≡ suc at = add-one at in
        rw same (take_one at zero count e refused here)
    take_rest (suc k) at count above e refused here =
        let same : at + suc (suc k) ≡ suc at + suc k = omega arith in
        let next : may_pass m s (eqb (cond counted_too (count + 1) count) 0) (suc at) ≡ false = rw (first_stays counted_too count above) (refused_next m s consecutive (eqb count 0) at k e refused) in
        rw (same, sym (one_more counted_too count k))
        (take_rest k (suc at) (cond counted_too (count + 1) count) (above_stays counted_too count above) (begins m.separator s at (suc k) e).1 next (take_one at (suc k) count e refused here))

    pub run_taken : (at k count : ℕ) → (counted_too ≡ true → 0 < count) → separator_run m.separator (drop at s) ≡ suc k → passed_at m s (eqb count 0) at ≡ 0
        → Summing m s counts start counted at count passed → Summing m s counts start counted (at + suc k) (cond counted_too (count + suc k) count) passed
    run_taken at k count above e refused here = take_rest k at count above e (refused-first m s consecutive (eqb count 0) at k e refused) here

-- the count behind one byte, and behind a run of them
count_of : (t : Bool) (count taken : ℕ) → cond (eqb (cond t (count + 1) count) count) count (count + taken) ≡ cond t (count + taken) count
count_of true count taken = rw (ne_eqb (count + 1) count (λ z. omega arith))
count_of false count taken = rw (eq-eqb count count refl)

grows : (t : Bool) (count : ℕ) → (eqb (cond t (count + 1) count) count || not (eqb count 0)) ≡ true → t ≡ true → 0 < count
grows true count h e =
    ⊎_elim (λ z. absurd (false≢true (rw (z, ne_eqb (0 + 1) 0 (λ y. omega arith)) at h))) (λ p. p) (eq-zero-or-pos count)
grows false count h e = absurd (false≢true e)

-- Where takes come to behind a byte that is taken, from a separator: where it is the separator itself, since that is refused, and the
-- consecutive flag is set, the rest of its run is taken too.
module _
    (m : Reading)
    (s : List ℕ)
    (counts : Bool)
    (start counted at count passed place more : ℕ)
    (here : Summing m s counts start counted at count passed)
    (equal : get_or s at 0 ≡ m.separator)
    (lands : place ≡ lands_at m s at count)
    (h : place < length s)
    (behind : more ≡ count_behind m counts (get_or s place 0) count)
  where
    abbrev refused_here : Bool
    refused_here = eqb (place - at) 0 && (eqb more count || not (eqb count 0))

    one_taken : Summing m s counts start counted (place + 1) (cond (eqb more count) count (count + 1)) (passed + (place - at))
    one_taken =
        rw (behind, count_of (counts && m.digit (get_or s place 0)) count 1)
        (summing_on m s counts start counted at count passed here place lands h)

    all_taken_lem : refused_here ≡ true → 0 < m.separator → m.flags.consecutive ≡ true
        → Summing m s counts start counted (place + separator_run m.separator (drop place s)) (cond (eqb more count) count (count + separator_run m.separator (drop place s))) (passed + (place - at))
    all_taken_lem t p consecutive =
        let none : place - at ≡ 0 = eqb-true (place - at) 0 (and_parts (eqb (place - at) 0) (eqb more count || not (eqb count 0)) t).0 in
        let stays : place ≡ at = omega (arith, none, lands) in
        let refused : passed_at m s (eqb count 0) at ≡ 0 = omega (arith, none, lands) in
        let nothing : passed + (place - at) ≡ passed = omega (arith, none) in
        let byte : more ≡ count_behind m counts m.separator count = rw (stays, equal) at behind in
        let e : separator_run m.separator (drop at s) ≡ suc (separator_run m.separator (drop (suc at) s)) = rw (drop-cons s at 0 (omega (arith, stays, h)), is_separator_lem m.separator _ p equal) in
        let above = grows (counts && m.digit m.separator) count (rw byte at (and_parts (eqb (place - at) 0) (eqb more count || not (eqb count 0)) t).1) in
        rw (nothing, stays, byte, count_of (counts && m.digit m.separator) count (separator_run m.separator (drop at s)), e)
        (run_taken m s counts start counted passed consecutive at _ count above e refused here)

    pub summing_taken : (to : ℕ)
        → to ≡ place + cond (refused_here && not (eqb m.separator 0)) (cond m.flags.consecutive (separator_run m.separator (drop place s)) 1) 1
        → Summing m s counts start counted to (cond (eqb more count) count (count + (to - place))) (passed + (place - at))
    summing_taken to on = go (refused_here && not (eqb m.separator 0)) m.flags.consecutive refl refl on where
      one : to ≡ place + 1 → Summing m s counts start counted to (cond (eqb more count) count (count + (to - place))) (passed + (place - at))
      one l = let step : to - place ≡ 1 = omega arith in rw (step, l) one_taken

      go : (t c : Bool) → (refused_here && not (eqb m.separator 0)) ≡ t → m.flags.consecutive ≡ c
          → to ≡ place + cond t (cond c (separator_run m.separator (drop place s)) 1) 1
          → Summing m s counts start counted to (cond (eqb more count) count (count + (to - place))) (passed + (place - at))
      go false c e k l = one l
      go true false e k l = one l
      go true true e k l =
          let run : to - place ≡ separator_run m.separator (drop place s) = omega arith in
          rw (run, l) (all_taken_lem (and_parts refused_here (not (eqb m.separator 0)) e).0 (positive m.separator (and_parts refused_here (not (eqb m.separator 0)) e).1) k)

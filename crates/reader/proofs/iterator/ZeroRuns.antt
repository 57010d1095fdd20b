-- Where `0` is the separator and is refused to a reader that has counted, so is the rest of its run, and the reads of a zero skip come to
-- the run's end one by one, so the loop may go there at once. For the proof of `take_separator_zeros`. Assumes nothing.
use Rattle.std.proofs.Common.{◌≡◌, ℕ, zero, suc, ◌+◌, ◌-◌, ◌<◌, Bool, true, false, cond, not, ◌&&◌, eqb, List, length, get_or, drop, sym, refl, ◌∙◌, add-one, arith, drop-cons, lt-ltb, eq-eqb, ne_eqb, eqb-true}
use Rattle.std.proofs.lemmas.Bool.{and_parts}
use Rattle.reader.specs.declared.state.Reader.{Reader}
use Rattle.reader.specs.declared.state.State.{State}
use Rattle.reader.specs.Place.{separator_run}
use Rattle.reader.specs.Reading.{Reading, may_pass, passed_at}
use Rattle.reader.specs.ZeroSkip.{skip_refusal}
use Rattle.reader.proofs.passing.Places.{is_separator_lem}
use Rattle.reader.proofs.passing.Passed.{separator_is}
use Rattle.reader.proofs.passing.RefusedRuns.{inside, begins, positive, refused-first, refused_next, refused_stays}
use Rattle.reader.proofs.iterator.ZeroLoop.{zero_at, zero_there, Skipping, skipping_on, skipping_by_one}

module _
    (m : Reading)
    (s : List ℕ)
    (r : Reader)
    (st : State)
    (clear : skip_refusal m.flags s st r ≡ 0)
    (consecutive : m.flags.consecutive ≡ true)
    (is_zero : m.separator ≡ 48)
    (passed : ℕ)
  where
    zero_here : (at k : ℕ) → separator_run m.separator (drop at s) ≡ suc k → zero_at s at ≡ true
    zero_here at k e =
        let byte : get_or s at 0 ≡ 48 = separator_is m.separator (get_or s at 0) (begins m.separator s at k e).0 ∙ is_zero in
        rw (lt-ltb at (length s) (inside m.separator s at k e), eq-eqb (get_or s at 0) 48 byte)

    later : (count : ℕ) → 0 < count → eqb count 0 ≡ false
    later count above = ne_eqb count 0 (λ z. omega arith)

    read_one : (at k count taken : ℕ) → separator_run m.separator (drop at s) ≡ suc k → 0 < count → may_pass m s false at ≡ false
        → Skipping m s r st at count taken passed → Skipping m s r st (suc at) (count + 1) (taken + 1) passed
    read_one at k count taken e above refused here =
        let stays : at ≡ at + passed_at m s (eqb count 0) at = rw (later count above) (refused_stays m s consecutive false at refused) in
        rw add-one at (skipping_by_one m s r st clear at count taken passed here stays (zero_here at k e))

    read_rest : (k at count taken : ℕ) → separator_run m.separator (drop at s) ≡ suc k → 0 < count → may_pass m s false at ≡ false
        → Skipping m s r st at count taken passed → Skipping m s r st (at + suc k) (count + suc k) (taken + suc k) passed
    read_rest zero at count taken e above refused here =
        let same : at + 1 ≡ suc at = add-one at in
        rw same (read_one at zero count taken e above refused here)
    read_rest (suc k) at count taken e above refused here =
        let place : at + suc (suc k) ≡ suc at + suc k = omega arith in
        let counts : count + suc (suc k) ≡ count + 1 + suc k = omega arith in
        let takes : taken + suc (suc k) ≡ taken + 1 + suc k = omega arith in
        rw (place, counts, takes)
        (read_rest k (suc at) (count + 1) (taken + 1) (begins m.separator s at (suc k) e).1 (omega arith) (refused_next m s consecutive false at k e refused) (read_one at (suc k) count taken e above refused here))

    pub run_read : (at k count taken : ℕ) → separator_run m.separator (drop at s) ≡ suc k → 0 < count → passed_at m s (eqb count 0) at ≡ 0
        → Skipping m s r st at count taken passed → Skipping m s r st (at + suc k) (count + suc k) (taken + suc k) passed
    run_read at k count taken e above refused here =
        read_rest k at count taken e above (refused-first m s consecutive false at k e (rw (later count above) at refused)) here

-- Where the reads come to behind a zero that is read: where it is refused to a reader that has counted, the rest of its run is read too.
module _
    (m : Reading)
    (s : List ℕ)
    (r : Reader)
    (st : State)
    (clear : skip_refusal m.flags s st r ≡ 0)
    (is_zero : m.separator ≡ 48)
    (at count taken passed place : ℕ)
    (here : Skipping m s r st at count taken passed)
    (lands : place ≡ at + passed_at m s (eqb count 0) at)
    (zero_read : zero_at s place ≡ true)
  where
    abbrev refused_zero : Bool
    refused_zero = eqb (place - at) 0 && not (eqb count 0)

    all_read : refused_zero ≡ true → m.flags.consecutive ≡ true
        → Skipping m s r st (place + separator_run m.separator (drop place s)) (count + separator_run m.separator (drop place s)) (taken + separator_run m.separator (drop place s)) (passed + (place - at))
    all_read t consecutive =
        let none : place - at ≡ 0 = eqb-true (place - at) 0 (and_parts (eqb (place - at) 0) (not (eqb count 0)) t).0 in
        let above = positive count (and_parts (eqb (place - at) 0) (not (eqb count 0)) t).1 in
        let stays : place ≡ at = omega (arith, none, lands) in
        let refused : passed_at m s (eqb count 0) at ≡ 0 = omega (arith, none, lands) in
        let nothing : passed + (place - at) ≡ passed = omega (arith, none) in
        let there = zero_there s place zero_read in
        let byte : get_or s at 0 ≡ m.separator = rw stays at (eqb-true (get_or s place 0) 48 there.1 ∙ sym is_zero) in
        let e : separator_run m.separator (drop at s) ≡ suc (separator_run m.separator (drop (suc at) s)) = rw (drop-cons s at 0 (omega (arith, stays, there.0)), is_separator_lem m.separator _ (omega (arith, is_zero)) byte) in
        rw (nothing, stays, e) (run_read m s r st clear consecutive is_zero passed at _ count taken e above refused here)

    pub skipping_taken : (to : ℕ)
        → to ≡ place + cond (refused_zero && not (eqb m.separator 0)) (cond m.flags.consecutive (separator_run m.separator (drop place s)) 1) 1
        → Skipping m s r st to (count + (to - place)) (taken + (to - place)) (passed + (place - at))
    skipping_taken to on = go (refused_zero && not (eqb m.separator 0)) m.flags.consecutive refl refl on where
      one : to ≡ place + 1 → Skipping m s r st to (count + (to - place)) (taken + (to - place)) (passed + (place - at))
      one l = let step : to - place ≡ 1 = omega arith in rw (step, l) (skipping_on m s r st clear at count taken passed here place lands zero_read)

      go : (t c : Bool) → (refused_zero && not (eqb m.separator 0)) ≡ t → m.flags.consecutive ≡ c
          → to ≡ place + cond t (cond c (separator_run m.separator (drop place s)) 1) 1
          → Skipping m s r st to (count + (to - place)) (taken + (to - place)) (passed + (place - at))
      go false c e k l = one l
      go true false e k l = one l
      go true true e k l =
          let run : to - place ≡ separator_run m.separator (drop place s) = omega arith in
          rw (run, l) (all_read (and_parts refused_zero (not (eqb m.separator 0)) e).0 k)

-- A run of separators under the consecutive flag: its separators have the same neighbours, so where one is refused the next is too. For
-- the loops that take or read such a run at once. Assumes nothing.
use Rattle.std.proofs.Common.{◌≡◌, ℕ, zero, suc, ◌+◌, ◌<◌, Bool, true, false, cond, not, eqb, List, [], ◌∷◌, length, get_or, drop, refl, ⊎_elim, eq-zero-or-pos, add-one, arith, length-drop, drop-cons, eq-eqb}
use Rattle.std.proofs.Math.Dec.{eqb-suc-zero}
use Rattle.std.proofs.lemmas.Bool.{false≢true}
use Rattle.reader.specs.Place.{is_separator, before, after, first_other, separator_run}
use Rattle.reader.specs.Reading.{Reading, may_pass, passed_at}
use Rattle.reader.proofs.passing.Places.{byte_here, before_next, run_over}

-- where a list begins with a separator there is a byte
run_inside : (separator : ℕ) (l : List ℕ) (k : ℕ) → separator_run separator l ≡ suc k → 0 < length l
run_inside separator [] k e = absurd (omega arith)
run_inside separator (b ∷ l) k e = omega arith

run_begins : (t : Bool) (n k : ℕ) → cond t (suc n) 0 ≡ suc k → (t ≡ true) × (n ≡ k)
run_begins true n k e = (refl, omega arith)
run_begins false n k e = absurd (omega arith)

none_passes : (t run : Bool) (n k : ℕ) → run ≡ true → n ≡ suc k → cond t (cond run n 1) 0 ≡ 0 → t ≡ false
none_passes true run n k c e z = absurd (let y : n ≡ 0 = rw c at z in omega arith)
none_passes false run n k c e z = refl

-- what begins with a run of one or more, by index
module _ (separator : ℕ) (s : List ℕ) (at k : ℕ) (e : separator_run separator (drop at s) ≡ suc k) where
  pub inside : at < length s
  inside = omega (arith, simp (length-drop) at (run_inside separator (drop at s) k e))

  pub begins : (is_separator separator (get_or s at 0) ≡ true) × (separator_run separator (drop (suc at) s) ≡ k)
  begins = run_begins (is_separator separator (get_or s at 0)) (separator_run separator (drop (suc at) s)) k (rw (drop-cons s at 0 inside) at e)

pub positive : (separator : ℕ) → not (eqb separator 0) ≡ true → 0 < separator
positive separator e = ⊎_elim (λ z. absurd (false≢true (rw (eq-eqb separator 0 z) at e))) (λ p. p) (eq-zero-or-pos separator)

pub not_zero : (separator : ℕ) → 0 < separator → not (eqb separator 0) ≡ true
not_zero zero positive = absurd (omega arith)
not_zero (suc n) positive = rw (eqb-suc-zero n)

-- one or a run: from a separator it is a way forward
pub goes_on :
    (separator : ℕ) (run : Bool) (s : List ℕ) (at : ℕ) → at < length s → 0 < separator → get_or s at 0 ≡ separator
    → (to : ℕ) → to ≡ at + cond run (separator_run separator (drop at s)) 1 → at < to
goes_on separator true s at h positive equal to e = omega (arith, e, run_over separator s at h positive equal)
goes_on separator false s at h positive equal to e = omega (arith, e)

module _ (m : Reading) (s : List ℕ) (consecutive : m.flags.consecutive ≡ true) (is_first : Bool) where
  -- two separators side by side
  module _ (i : ℕ) (h : suc i < length s) (one : is_separator m.separator (get_or s i 0) ≡ true) (two : is_separator m.separator (get_or s (suc i) 0) ≡ true) where
    same_before : first_other m.separator (before s (suc i)) ≡ first_other m.separator (before s i)
    same_before = rw (rw add-one at (before_next s i (omega arith)), one)

    same_after : first_other m.separator (after s i) ≡ first_other m.separator (after s (suc i))
    same_after = rw (drop-cons s (suc i) 0 h, two)

    same_rule : may_pass m s is_first (suc i) ≡ may_pass m s is_first i
    unfolding may_pass
    same_rule = rw (byte_here s (suc i) h, byte_here s i (omega arith), one, two, consecutive, same_before, same_after)

  pub refused-first : (at k : ℕ) → separator_run m.separator (drop at s) ≡ suc k → passed_at m s is_first at ≡ 0 → may_pass m s is_first at ≡ false
  unfolding passed_at
  refused-first at k e refused = none_passes (may_pass m s is_first at) m.flags.consecutive _ k consecutive e refused

  pub refused_next : (at k : ℕ) → separator_run m.separator (drop at s) ≡ suc (suc k) → may_pass m s is_first at ≡ false → may_pass m s is_first (suc at) ≡ false
  refused_next at k e refused =
      let rest = begins m.separator s at (suc k) e in
      rw (same_rule at (inside m.separator s (suc at) k rest.1) rest.0 (begins m.separator s (suc at) k rest.1).0) refused

  pub refused_stays : (at : ℕ) → may_pass m s is_first at ≡ false → at ≡ at + passed_at m s is_first at
  unfolding passed_at
  refused_stays at refused = rw refused (omega arith)

-- What a reader passes at a place, over any reading: separators only, within the buffer, and only where its rule lets it. The calls of
-- skip and the byte tally stand on it. Assumes nothing.
use Rattle.std.proofs.Common.{◌≡◌, ℕ, suc, ◌+◌, ◌<◌, ◌≤◌, Bool, true, false, cond, not, eqb, List, [], ◌∷◌, length, get_or, take, drop, replicate, Some, None, Option, sym, refl, arith, length-drop, drop-cons, eqb-true}
use Rattle.std.proofs.lemmas.Bool.{and_parts}
use Rattle.reader.specs.Place.{is_separator, byte_at, separator_run, first_other}
use Rattle.reader.specs.Reading.{Reading, may_pass, passed_at, passes_byte, previous, following}
use Rattle.reader.proofs.passing.Places.{byte_inside, byte_here}

pub run_fits : (separator : ℕ) (l : List ℕ) → separator_run separator l ≤ length l
run_fits separator [] = omega arith
run_fits separator (b ∷ l) = go (is_separator separator b) (run_fits separator l) where
  go : (t : Bool) → separator_run separator l ≤ length l → cond t (suc (separator_run separator l)) 0 ≤ suc (length l)
  go true h = omega arith
  go false h = omega arith

-- what is passed at a place lies within the buffer
module _ (m : Reading) (s : List ℕ) (is_first : Bool) (place : ℕ) where
  one_fits : may_pass m s is_first place ≡ true → place < length s
  unfolding may_pass
  one_fits e = go (byte_at s place) refl e where
    go : (o : Option ℕ) → byte_at s place ≡ o → passes_byte m s is_first place o ≡ true → place < length s
    go None q h = absurd (cc)
    go (Some b) q h = byte_inside s place b q

  pub passed_fits : place ≤ length s → place + passed_at m s is_first place ≤ length s
  unfolding passed_at
  passed_fits h = go (may_pass m s is_first place) m.flags.consecutive refl refl where
    go : (t c : Bool) → may_pass m s is_first place ≡ t → m.flags.consecutive ≡ c → place + passed_at m s is_first place ≤ length s
    go false c p q = rw p (omega arith)
    go true true p q = rw (p, q) (omega (arith, run_fits m.separator (drop place s), length-drop place s, one_fits p))
    go true false p q = rw (p, q) (omega (arith, one_fits p))

-- a separator is the separator byte
pub separator_is : (separator b : ℕ) → is_separator separator b ≡ true → b ≡ separator
unfolding is_separator
separator_is separator b e = eqb-true b separator (and_parts (not (eqb separator 0)) (eqb b separator) e).1

run_only : (separator : ℕ) (l : List ℕ) → take (separator_run separator l) l ≡ replicate (separator_run separator l) separator
run_only separator [] = refl
run_only separator (b ∷ l) = go (is_separator separator b) refl (run_only separator l) where
  go :
      (t : Bool) → is_separator separator b ≡ t
      → take (separator_run separator l) l ≡ replicate (separator_run separator l) separator
      → take (separator_run separator (b ∷ l)) (b ∷ l) ≡ replicate (separator_run separator (b ∷ l)) separator
  go true e rest = rw (e, separator_is separator b e, rest)
  go false e rest = rw e

pub other_differs : (separator : ℕ) (l : List ℕ) (b : ℕ) → first_other separator l ≡ Some b → is_separator separator b ≡ false
other_differs separator [] b e = absurd (cc)
other_differs separator (c ∷ l) b e = go (is_separator separator c) refl e (other_differs separator l b) where
  go :
      (t : Bool) → is_separator separator c ≡ t → first_other separator (c ∷ l) ≡ Some b
      → (first_other separator l ≡ Some b → is_separator separator b ≡ false) → is_separator separator b ≡ false
  go true q h rest = rest (rw q at h)
  go false q h rest = let same : Some c ≡ Some b = rw q at h in let byte : c ≡ b = cc in rw (sym byte) q

module _ (m : Reading) (s : List ℕ) (is_first : Bool) (place : ℕ) where
  -- where a reader may pass there is a separator, and its rule holds
  pub record PassesHere : Type 0 where
    pub byte : ℕ
    pub here : byte_at s place ≡ Some byte
    pub separator : is_separator m.separator byte ≡ true
    pub rule : m.rule is_first (previous m s place) (following m s place) ≡ true

  pub passes_here : may_pass m s is_first place ≡ true → PassesHere
  unfolding may_pass
  passes_here e = go (byte_at s place) refl e where
    go : (o : Option ℕ) → byte_at s place ≡ o → passes_byte m s is_first place o ≡ true → PassesHere
    go None q h = absurd (cc)
    go (Some b) q h = record { byte = b; here = q; separator = (and_parts (is_separator m.separator b) _ h).0; rule = (and_parts (is_separator m.separator b) _ h).1 }

  pub passes_none : may_pass m s is_first place ≡ false → passed_at m s is_first place ≡ 0
  unfolding passed_at
  passes_none e = rw e

  pub passes_one : may_pass m s is_first place ≡ true → m.flags.consecutive ≡ false → passed_at m s is_first place ≡ 1
  unfolding passed_at
  passes_one e k = rw (e, k)

  pub passes_run : may_pass m s is_first place ≡ true → m.flags.consecutive ≡ true → passed_at m s is_first place ≡ separator_run m.separator (drop place s)
  unfolding passed_at
  passes_run e k = rw (e, k)

  one_only : may_pass m s is_first place ≡ true → take 1 (drop place s) ≡ m.separator ∷ []
  one_only e =
      let p = passes_here e in
      let h = byte_inside s place p.byte p.here in
      let same : get_or s place 0 ≡ p.byte = cc (byte_here s place h, p.here) in
      rw (drop-cons s place 0 h, same, separator_is m.separator p.byte p.separator)

  -- what is passed is separators only
  pub passes_only : take (passed_at m s is_first place) (drop place s) ≡ replicate (passed_at m s is_first place) m.separator
  passes_only = go (may_pass m s is_first place) m.flags.consecutive refl refl where
    go :
        (t c : Bool) → may_pass m s is_first place ≡ t → m.flags.consecutive ≡ c
        → take (passed_at m s is_first place) (drop place s) ≡ replicate (passed_at m s is_first place) m.separator
    go false c e k = rw (passes_none e)
    go true true e k = rw (passes_run e k) (run_only m.separator (drop place s))
    go true false e k = rw (passes_one e k) (one_only e)

  -- and only where the rule lets the reader
  pub passes_by_rule : 0 < passed_at m s is_first place → may_pass m s is_first place ≡ true
  passes_by_rule = go (may_pass m s is_first place) refl where
    go : (t : Bool) → may_pass m s is_first place ≡ t → 0 < passed_at m s is_first place → may_pass m s is_first place ≡ true
    go false e h = absurd (omega (arith, passes_none e))
    go true e h = e

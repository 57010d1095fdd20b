-- Where a reading settles, a reader passes nothing at the place behind what it passed: for a peek put in before a call. Assumes nothing.
use Rattle.std.proofs.Common.{◌≡◌, ℕ, ◌+◌, Bool, true, false, List, get_or, drop, slice_get, Some, None, Option, refl, ap, ◌∙◌, add-zero, add-one, ◌&&◌}
use Rattle.reader.specs.declared.rule.Neighbour.{Neighbour}
use Rattle.reader.specs.Place.{is_separator, byte_at, before, after, first_other, separator_run, nearest}
use Rattle.reader.specs.Reading.{Reading, neighbour_of, previous, following, passes_byte, may_pass, passed_at}
use Rattle.reader.proofs.passing.Places.{before_next, run_byte, byte_inside, byte_here}
use Rattle.reader.proofs.passing.Passed.{PassesHere, other_differs, passes_here, passes_none, passes_one, passes_run}

-- The one law that a tally asks of a reading: without the consecutive flag, a rule that holds in front of a separator does not hold
-- right behind one.
pub record Settles (m : Reading) : Type 0 where
  pub once :
      (is_first : Bool) (b x : ℕ) (p n : Neighbour)
      → m.flags.consecutive ≡ false → is_separator m.separator b ≡ true → is_separator m.separator x ≡ true
      → m.rule is_first p (neighbour_of m (Some x)) ≡ true → m.rule is_first (neighbour_of m (Some b)) n ≡ false

and_fails : (a b : Bool) → (a ≡ true → b ≡ false) → (a && b) ≡ false
and_fails true b h = h refl
and_fails false b h = refl

pub plain_nearest : (separator : ℕ) (consecutive : Bool) (bytes : List ℕ) → consecutive ≡ false → nearest separator consecutive bytes ≡ slice_get bytes 0
plain_nearest separator consecutive bytes e = rw e

module _ (m : Reading) (law : Settles m) (s : List ℕ) (is_first : Bool) (place : ℕ) where
  run_settles : may_pass m s is_first (place + separator_run m.separator (drop place s)) ≡ false
  unfolding may_pass
  run_settles = rw (run_byte m.separator s place) (go (first_other m.separator (drop place s)) refl) where
    go :
        (o : Option ℕ) → first_other m.separator (drop place s) ≡ o
        → passes_byte m s is_first (place + separator_run m.separator (drop place s)) o ≡ false
    go None e = refl
    go (Some b) e = rw (other_differs m.separator (drop place s) b e)

  one_settles : may_pass m s is_first place ≡ true → m.flags.consecutive ≡ false → may_pass m s is_first (place + 1) ≡ false
  unfolding may_pass
  one_settles e k = go (byte_at s (place + 1)) refl where
    p : PassesHere m s is_first place
    p = passes_here m s is_first place e

    back : byte_at s place ≡ Some p.byte → previous m s (place + 1) ≡ neighbour_of m (Some p.byte)
    back q =
        let h = byte_inside s place p.byte q in
        let same : get_or s place 0 ≡ p.byte = cc (byte_here s place h, q) in
        ap (neighbour_of m) (plain_nearest m.separator m.flags.consecutive (before s (place + 1)) k ∙ rw (before_next s place h, same))

    go : (o : Option ℕ) → byte_at s (place + 1) ≡ o → passes_byte m s is_first (place + 1) o ≡ false
    go None q = refl
    go (Some x) q =
        and_fails (is_separator m.separator x) _
        (λ h.
        let front : following m s place ≡ neighbour_of m (Some x) =
        ap (neighbour_of m) (plain_nearest m.separator m.flags.consecutive (after s place) k ∙ rw (← add-one, q)) in
        rw (back p.here) (law.once is_first p.byte x (previous m s place) (following m s (place + 1)) k p.separator h (rw front at p.rule)))

  -- the reader passes nothing at the place behind what it passed
  pub settled : may_pass m s is_first (place + passed_at m s is_first place) ≡ false
  settled = go (may_pass m s is_first place) m.flags.consecutive refl refl where
    go : (t c : Bool) → may_pass m s is_first place ≡ t → m.flags.consecutive ≡ c → may_pass m s is_first (place + passed_at m s is_first place) ≡ false
    go false c e k = rw (passes_none m s is_first place e, add-zero, e)
    go true true e k = rw (passes_run m s is_first place e k) run_settles
    go true false e k = rw (passes_one m s is_first place e k) (one_settles e k)

  pub passes_no_more : passed_at m s is_first (place + passed_at m s is_first place) ≡ 0
  passes_no_more = passes_none m s is_first (place + passed_at m s is_first place) settled

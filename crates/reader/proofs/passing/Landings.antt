-- Laws of passing, a law for each way that the code returns: which neighbour it answers, and where a cursor lands: for the
-- functions of src/passing.rt, the loops, and an ordinary cell of a column. Assumes nothing.
use Rattle.std.proofs.Common.{◌≡◌, ℕ, ◌+◌, ◌<◌, ◌≤◌, Bool, true, false, cond, List, length, get_or, drop, slice_get, None, Option, ap, ◌∙◌, arith}
use Rattle.reader.specs.declared.rule.Neighbour.{Neighbour}
use Rattle.reader.specs.declared.passing.Syntax.{Syntax}
use Rattle.reader.specs.Rule.{rule_of}
use Rattle.word.specs.Bits.{bit}
use Rattle.reader.specs.Code.RuleWords.{code_of}
use Rattle.reader.specs.Place.{is_separator, byte_at, after, first_other, separator_run, nearest}
use Rattle.reader.specs.Reading.{reading_with, neighbour_of, previous, following, may_pass, passed_at}
use Rattle.reader.proofs.passing.Places.{byte_here, no_byte, is_separator_lem}

-- the neighbour of a place on one side, whose bytes these are, where it is wanted
abbrev pub neighbour_where : Syntax → Bool → List ℕ → Neighbour
neighbour_where x wanted bytes =
    cond wanted
    (neighbour_of (reading_with x) (nearest (reading_with x).separator (reading_with x).flags.consecutive bytes))
    (neighbour_of (reading_with x) None)

module _ (x : Syntax) (wanted : Bool) (bytes : List ℕ) (r : Neighbour) where
  pub unwanted : wanted ≡ false → r ≡ neighbour_of (reading_with x) None → r ≡ neighbour_where x wanted bytes
  unwanted t known = rw t known

  module _ (byte : Option ℕ) (t : wanted ≡ true) (known : r ≡ neighbour_of (reading_with x) byte) where
    pub nearest_other : x.flags.consecutive ≡ true → byte ≡ first_other x.separator bytes → r ≡ neighbour_where x wanted bytes
    unfolding reading_with
    nearest_other k e = rw t (known ∙ ap (neighbour_of (reading_with x)) (e ∙ rw k))

    pub nearest_byte : x.flags.consecutive ≡ false → byte ≡ slice_get bytes 0 → r ≡ neighbour_where x wanted bytes
    unfolding reading_with
    nearest_byte k e = rw t (known ∙ ap (neighbour_of (reading_with x)) (e ∙ rw k))

-- Once a reader has counted, its rule is the entry's answer for the neighbour behind.
pub asked_behind :
    (x : Syntax) (s : List ℕ) (at w place : ℕ) (next : Neighbour) (may : Bool)
    → ((p n : Neighbour) → bit w (code_of n) ≡ rule_of x.flags false p n)
    → next ≡ neighbour_of (reading_with x) (byte_at s place)
    → byte_at s place ≡ nearest x.separator x.flags.consecutive (after s at)
    → may ≡ bit w (code_of next)
    → may ≡ rule_of x.flags false (previous (reading_with x) s at) (following (reading_with x) s at)
unfolding reading_with
asked_behind x s at w place next may entry known stands asked =
    asked
    ∙ entry (previous (reading_with x) s at) next
    ∙ ap (rule_of x.flags false (previous (reading_with x) s at)) (known ∙ ap (neighbour_of (reading_with x)) stands)

module _ (x : Syntax) (s : List ℕ) (is_first : Bool) (at : ℕ) where
  -- where the cursor lands
  abbrev pub landing_of : ℕ
  landing_of = at + passed_at (reading_with x) s is_first at

  pub stays_at_end : length s ≤ at → at ≡ landing_of
  unfolding passed_at may_pass
  stays_at_end out = rw (no_byte s at out) (omega arith)

  pub stays_on_other : at < length s → is_separator x.separator (get_or s at 0) ≡ false → at ≡ landing_of
  unfolding passed_at may_pass reading_with
  stays_on_other h e = rw (byte_here s at h, e) (omega arith)

  -- on a separator, what the rule says of it
  module _
      (h : at < length s)
      (positive : 0 < x.separator)
      (equal : get_or s at 0 ≡ x.separator)
      (may : Bool)
      (asked : may ≡ rule_of x.flags is_first (previous (reading_with x) s at) (following (reading_with x) s at))
    where
      passed :
          passed_at (reading_with x) s is_first at ≡ cond may (cond x.flags.consecutive (separator_run x.separator (drop at s)) 1) 0
      unfolding passed_at may_pass reading_with
      passed = rw (byte_here s at h, is_separator_lem x.separator _ positive equal, asked)

      pub stays_behind : may ≡ false → at ≡ landing_of
      stays_behind t = rw (passed, t) (omega arith)

      pub passes_behind : (r : ℕ) → may ≡ true → r ≡ at + cond x.flags.consecutive (separator_run x.separator (drop at s)) 1 → r ≡ landing_of
      passes_behind r t e = rw (passed, t) e

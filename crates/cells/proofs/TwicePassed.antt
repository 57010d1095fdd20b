-- A peek may leave its cursor at a separator that is itself a digit (words that the check refuses), and the take behind it then passes
-- that one too. By 01's rules it does so only without the consecutive flag, and only in front of a digit: so behind a peek that saw a digit
-- a digit is taken, by every word. Assumes nothing.
use Rattle.std.proofs.Common.{◌≡◌, ℕ, ◌+◌, Bool, true, false, List, get_or, drop, Some, Option, sym, refl, ap, ◌∙◌, add-zero, add-one}
use Rattle.std.proofs.lemmas.Bool.{false≢true}
use Rattle.reader.specs.declared.rule.Flags.{Flags}
use Rattle.reader.specs.declared.rule.Neighbour.{Neighbour}
use Rattle.reader.specs.declared.passing.Syntax.{Syntax}
use Rattle.reader.specs.Rule.{rule_of, first, later}
use Rattle.reader.specs.Place.{is_separator, byte_at, before, after}
use Rattle.reader.specs.Reading.{Reading, reading_with, neighbour_of, previous, following, may_pass, passed_at}
use Rattle.reader.proofs.passing.Places.{byte_here, byte_inside, before_next, run_byte}
use Rattle.reader.proofs.ByteTally.Settling.{plain_nearest}
use Rattle.reader.proofs.passing.Passed.{passes_here, passes_none, passes_one, passes_run, separator_is, other_differs}

-- a neighbour that is a separator and a digit
abbrev both : Neighbour
both = record { exists = true; digit = true; separator = true }

-- without the consecutive flag, a rule that holds in front of such a byte and right behind one holds there only in front of a digit
twice_first : (i l t : Bool) (p n : Neighbour) → first i l t false p both ≡ true → first i l t false both n ≡ true → n.digit ≡ true
twice_first true false false p n front back = back
twice_first true true false p n front back = back
twice_first false true false p n front back = absurd (false≢true back)
twice_first false false true p n front back = absurd (false≢true front)
twice_first true false true p n front back = absurd (false≢true front)
twice_first false true true p n front back = absurd (false≢true back)
twice_first true true true p n front back = absurd (false≢true back)
twice_first false false false p n front back = absurd (false≢true front)

twice_later : (i l t : Bool) (p n : Neighbour) → later i l t false p both ≡ true → later i l t false both n ≡ true → n.digit ≡ true
twice_later true false false p n front back = back
twice_later true true false p n front back = back
twice_later false true false p n front back = absurd (false≢true back)
twice_later false false true p n front back = absurd (false≢true front)
twice_later true false true p n front back = absurd (false≢true front)
twice_later false true true p n front back = absurd (false≢true front)
twice_later true true true p n front back = absurd (false≢true front)
twice_later false false false p n front back = absurd (false≢true front)

twice : (f : Flags) (is_first : Bool) (p n : Neighbour) → f.consecutive ≡ false → rule_of f is_first p both ≡ true → rule_of f is_first both n ≡ true → n.digit ≡ true
unfolding rule_of
twice f true p n single front back = twice_first f.internal f.leading f.trailing p n (rw single at front) (rw single at back)
twice f false p n single front back = twice_later f.internal f.leading f.trailing p n (rw single at front) (rw single at back)

same_byte : (o : Option ℕ) (a b : ℕ) → o ≡ Some a → o ≡ Some b → a ≡ b
same_byte o a b e f = cc

module _ (x : Syntax) (s : List ℕ) (is_first : Bool) (at : ℕ) where
  abbrev m : Reading
  m = reading_with x

  abbrev place : ℕ
  place = at + passed_at m s is_first at

  as_both : (b : ℕ) → m.digit b ≡ true → is_separator m.separator b ≡ true → neighbour_of m (Some b) ≡ both
  unfolding neighbour_of
  as_both b d e = rw (d, e)

  digit_told : (c : ℕ) → (neighbour_of m (Some c)).digit ≡ m.digit c
  unfolding neighbour_of
  digit_told c = refl

  module _ (b : ℕ) (here : byte_at s place ≡ Some b) (digit : m.digit b ≡ true) where
    -- what was passed with the consecutive flag is followed by another byte
    no_run : may_pass m s is_first at ≡ true → m.flags.consecutive ≡ true → may_pass m s is_first place ≡ true → ⊥
    no_run e k again =
        let p = passes_here m s is_first place again in
        let other = other_differs m.separator (drop at s) b (sym (run_byte m.separator s at) ∙ (rw (passes_run m s is_first at e k) at here)) in
        let same = same_byte (byte_at s place) p.byte b p.here here in
        false≢true (sym other ∙ rw (sym same) p.separator)

    -- what was passed without it was one separator, and the next one is in front of a digit
    single : may_pass m s is_first at ≡ true → m.flags.consecutive ≡ false → may_pass m s is_first place ≡ true
        → (c : ℕ) → byte_at s (place + 1) ≡ Some c → m.digit c ≡ true
    unfolding reading_with
    single e k again c behind =
        let p = passes_here m s is_first at e in
        let q = passes_here m s is_first place again in
        let one : place ≡ at + 1 = rw (passes_one m s is_first at e k) in
        let h = byte_inside s at p.byte p.here in
        let same : q.byte ≡ b = same_byte (byte_at s place) q.byte b q.here here in
        let separator : is_separator m.separator b ≡ true = rw same at q.separator in
        let equal : p.byte ≡ b = separator_is m.separator p.byte p.separator ∙ sym (separator_is m.separator b separator) in
        let is-both = as_both b digit separator in
        let byte : get_or s at 0 ≡ b = same_byte (byte_at s at) (get_or s at 0) b (byte_here s at h) (p.here ∙ ap Some equal) in
        let back : previous m s place ≡ neighbour_of m (Some b) =
        ap (neighbour_of m) (plain_nearest m.separator m.flags.consecutive (before s place) k ∙ rw (one, before_next s at h, byte)) in
        let front : following m s at ≡ neighbour_of m (Some b) =
        ap (neighbour_of m) (plain_nearest m.separator m.flags.consecutive (after s at) k ∙ rw (← add-one) (rw one at here)) in
        let next : following m s place ≡ neighbour_of m (Some c) =
        ap (neighbour_of m) (plain_nearest m.separator m.flags.consecutive (after s place) k ∙ rw (← add-one) behind) in
        sym (digit_told c)
        ∙ ap (λ (n : Neighbour). n.digit) (sym next)
        ∙ twice x.flags is_first (previous m s at) (following m s place) k (rw (front, is-both) at p.rule) (rw (back, is-both) at q.rule)

    pub digit_behind : (c : ℕ) → byte_at s (place + passed_at m s is_first place) ≡ Some c → m.digit c ≡ true
    digit_behind c behind = go (may_pass m s is_first place) (may_pass m s is_first at) m.flags.consecutive refl refl refl where
      go : (t u v : Bool) → may_pass m s is_first place ≡ t → may_pass m s is_first at ≡ u → m.flags.consecutive ≡ v → m.digit c ≡ true
      go false u v e f k =
          let stays : place + passed_at m s is_first place ≡ place = rw (passes_none m s is_first place e) (add-zero place) in
          let same = same_byte (byte_at s place) c b (rw stays at behind) here in
          rw same digit
      go true false v e f k =
          let stays : place ≡ at = rw (passes_none m s is_first at f) (add-zero at) in
          absurd (false≢true (sym f ∙ rw stays at e))
      go true true true e f k = absurd (no_run f k e)
      go true true false e f k = single f k e c (rw (passes_one m s is_first place e k) at behind)

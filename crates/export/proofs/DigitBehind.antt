-- A separator right before a digit is passed by every reader with the internal flag, once it has counted, and so is a run of them where
-- it passes several at once: for the quick ways of grouped cells and of a call at such a separator. Assumes nothing.
use Rattle.std.specs.Prelude.{Some}
use mathlib.Core.Path.{◌≡◌, ◌∙◌, refl, sym}
use mathlib.Core.Bool.{Bool, true, false, cond, false≢true}
use mathlib.Core.List.{List}
use Prim.Native.Nat.{ℕ, suc, ◌+◌, ◌<◌}
use native.Mathlib.Numerals.{add-one}
use lib.ListN.{length, drop, get_or}
use Rattle.word.specs.Digit.{is_digit}
use Rattle.reader.specs.declared.rule.Flags.{Flags}
use Rattle.reader.specs.declared.rule.Neighbour.{Neighbour}
use Rattle.reader.specs.declared.passing.Syntax.{Syntax}
use Rattle.reader.specs.Rule.{rule_of, later}
use Rattle.reader.specs.Place.{byte_at, after, first_other, separator_run, nearest}
use Rattle.reader.specs.Reading.{reading_with, neighbour_of, previous, passed_at}
use Rattle.reader.proofs.passing.Places.{byte_here, is_separator_lem, no_separator, run_end, run_byte, run_stops, run_over}
use Rattle.reader.proofs.passing.Passed.{other_differs}
use Rattle.reader.proofs.passing.Landings.{passes_behind}

-- what the rules with the internal flag share
rule_between : (f : Flags) (p n : Neighbour) → f.internal ≡ true → n.exists ≡ true → n.digit ≡ true → n.separator ≡ false → true ≡ rule_of f false p n
unfolding rule_of
rule_between f p n i e d o = rw i (go f.leading f.trailing f.consecutive) where
  go : (l t c : Bool) → true ≡ later true l t c p n
  go false false false = rw d
  go true false false = rw d
  go false true false = rw o
  go true true false = rw o
  go false false true = rw d
  go true false true = rw (e, d)
  go false true true = refl
  go true true true = refl

-- behind a run stands no separator
pub other_behind : (separator : ℕ) (s : List ℕ) (at n : ℕ) → 0 < separator → n ≡ run_end separator s at → n < length s → get_or s n 0 ≡ separator → ⊥
other_behind separator s at n positive ends more equal =
    let first : first_other separator (drop at s) ≡ Some (get_or s n 0) = sym (run_byte separator s at) ∙ rw (sym ends) (byte_here s n more) in
    false≢true (sym (other_differs separator (drop at s) (get_or s n 0) first) ∙ is_separator_lem separator (get_or s n 0) positive equal)

module _ (x : Syntax) (s : List ℕ) (at : ℕ) (inside : at < length s) (positive : 0 < x.separator) (equal : get_or s at 0 ≡ x.separator) where
  -- the place behind the separator, or behind its run where runs are passed at once
  module _ (place : ℕ) (behind : place ≡ at + cond x.flags.consecutive (separator_run x.separator (drop at s)) 1)
      (more : place < length s) (differ : get_or s place 0 ≡ x.separator → ⊥) where
    byte_behind : nearest x.separator x.flags.consecutive (after s at) ≡ Some (get_or s place 0)
    byte_behind = sym (go x.flags.consecutive behind) ∙ byte_here s place more where
      go : (c : Bool) → place ≡ at + cond c (separator_run x.separator (drop at s)) 1 → byte_at s place ≡ nearest x.separator c (after s at)
      go true e = rw (e, ← run_over x.separator s at inside positive equal, add-one) (run_byte x.separator s (suc at))
      go false e = rw (e, add-one)

    pub lands_behind : is_digit (get_or s place 0) x.radix ≡ true → x.flags.internal ≡ true → place ≡ at + passed_at (reading_with x) s false at
    unfolding reading_with neighbour_of
    lands_behind digit internal =
        passes_behind x s false at inside positive equal true
        (rw byte_behind (rule_between x.flags (previous (reading_with x) s at) (neighbour_of (reading_with x) (Some (get_or s place 0))) internal refl digit (no_separator x.separator _ differ)))
        place refl behind

  pub lands_between : at + 1 < length s → (get_or s (at + 1) 0 ≡ x.separator → ⊥) → is_digit (get_or s (at + 1) 0) x.radix ≡ true → x.flags.internal ≡ true
      → at + 1 ≡ at + passed_at (reading_with x) s false at
  lands_between more differ = lands_behind (at + 1) (go x.flags.consecutive) more differ where
    go : (c : Bool) → at + 1 ≡ at + cond c (separator_run x.separator (drop at s)) 1
    go true = run_stops x.separator s (at + 1) more differ ∙ run_over x.separator s at inside positive equal
    go false = refl

-- Laws of a place and the bytes around it, by index, as a search over a slice meets them: for every room. Assumes nothing.
use Rattle.std.specs.Borrow.{Bor}
use Rattle.std.specs.Option.{option_copied}
use Rattle.std.specs.Slice.{IsItemAt}
use Rattle.std.proofs.Common.{◌≡◌, ℕ, zero, suc, ◌+◌, ◌-◌, ◌%◌, ◌^◌, ◌<◌, ◌≤◌, Bool, true, false, cond, not, eqb, List, [], ◌∷◌, length, get_or, take, drop, slice_get, Some, None, Option, sym, refl, ap, ◌∙◌, ⊎_elim, eq-zero-or-pos, add-one, arith, drop_of_length-le, drop-cons, drop-drop, eq-eqb, ne_eqb, length-drop}
use mathlib.Core.List.{reverse_aux}
use Rattle.std.proofs.Math.Bool.{and-false}
use Rattle.std.proofs.lemmas.Option.{slice_get_within}
use Rattle.reader.specs.Place.{is_separator, byte_at, before, first_other, separator_run}

-- the byte at an index
module _ (s : List ℕ) (i : ℕ) where
  pub byte_here : i < length s → byte_at s i ≡ Some (get_or s i 0)
  byte_here h = rw (drop-cons s i 0 h)

  pub no_byte : length s ≤ i → byte_at s i ≡ None
  no_byte h = rw (drop_of_length-le s h)

-- what `get` lends, copied, is the byte there
pub byte_got : (s : List ℕ) (i : ℕ) (r : Option (Bor ℕ)) → IsItemAt s i r → option_copied r ≡ byte_at s i
byte_got s i None got = sym (no_byte s i got.3)
byte_got s i (Some x) got = ap Some (got.4 (omega arith) 0) ∙ sym (byte_here s i got.3.0)

-- which byte is a separator
pub is_separator_lem : (separator b : ℕ) → 0 < separator → b ≡ separator → is_separator separator b ≡ true
unfolding is_separator
is_separator_lem separator b positive e = rw (ne_eqb separator 0 (λ z. omega arith), eq-eqb b separator e)

pub no_separator : (separator b : ℕ) → (b ≡ separator → ⊥) → is_separator separator b ≡ false
unfolding is_separator
no_separator separator b differ = rw (ne_eqb b separator differ) (and-false (not (eqb separator 0)))

pub no_separator_at_all : (separator b : ℕ) → separator ≡ 0 → is_separator separator b ≡ false
unfolding is_separator
no_separator_at_all separator b e = rw (eq-eqb separator 0 e)

-- one byte more before a place
reversed_next : (i : ℕ) (s acc : List ℕ) → i < length s → reverse_aux (take (suc i) s) acc ≡ get_or s i 0 ∷ reverse_aux (take i s) acc
reversed_next i [] acc h = absurd (omega arith)
reversed_next zero (b ∷ s) acc h = refl
reversed_next (suc i) (b ∷ s) acc h = reversed_next i s (b ∷ acc) (omega arith)

pub before_next : (s : List ℕ) (i : ℕ) → i < length s → before s (i + 1) ≡ get_or s i 0 ∷ before s i
before_next s i h = rw add-one (reversed_next i s [] h)

-- the index before a place and the place after an index, as 64 bits wrap
abbrev pub index_before : ℕ → ℕ
index_before place = (place + (2 ^ 64 - 1)) % 2 ^ 64

abbrev pub place_after : ℕ → ℕ
place_after i = (i + 1) % 2 ^ 64

-- The byte at the index before a place is the byte just before it. Before place 0 the index lies past every buffer.
module _ (s : List ℕ) (at i : ℕ) (small : length s < 2 ^ 64) (within : at ≤ length s) (wraps : i ≡ index_before at) where
  none_before : length s ≤ i → before s at ≡ []
  none_before out = let start : at ≡ 0 = omega arith in rw start

  some_before : i < length s → before s at ≡ get_or s i 0 ∷ before s i
  some_before h = let inside : at ≡ i + 1 = omega arith in rw inside (before_next s i h)

  pub byte_before : byte_at s i ≡ slice_get (before s at) 0
  byte_before =
      ⊎_elim
      (λ start. rw (no_byte s i (omega arith), none_before (omega arith)))
      (λ inside. rw (byte_here s i (omega arith), some_before (omega arith)))
      (eq-zero-or-pos at)

-- A search backwards for a byte that is no separator has come to the index i: from there it finds what it finds from the place `at`.
pub record Searching (separator : ℕ) (s : List ℕ) (at i : ℕ) : Type 0 where
  same : first_other separator (before s (place_after i)) ≡ first_other separator (before s at)
  pub within : place_after i ≤ length s
  pub fits : i < 2 ^ 64

module _ (separator : ℕ) (s : List ℕ) (at i : ℕ) (small : length s < 2 ^ 64) where
  pub search_starts : at ≤ length s → i ≡ index_before at → Searching separator s at i
  search_starts h wraps =
      let back : place_after i ≡ at = omega arith in record { same = rw back; within = omega arith; fits = omega arith }

  module _ (here : Searching separator s at i) where
    pub search_ends : length s ≤ i → byte_at s i ≡ first_other separator (before s at)
    search_ends out =
        rw (no_byte s i out) (rw (none_before s (place_after i) i small here.within (omega arith) out) at here.same)

    -- one turn: what is found is this byte, or what is found from its place
    turn :
        i < length s
        → cond (is_separator separator (get_or s i 0)) (first_other separator (before s i)) (Some (get_or s i 0))
        ≡ first_other separator (before s at)
    turn h = rw (some_before s (place_after i) i small here.within (omega arith) h) at here.same

    pub search_finds : i < length s → (get_or s i 0 ≡ separator → ⊥) → byte_at s i ≡ first_other separator (before s at)
    search_finds h differ = rw (byte_here s i h) (rw (no_separator separator _ differ) at (turn h))

    pub search_goes_on :
        (j : ℕ) → i < length s → 0 < separator → get_or s i 0 ≡ separator → j ≡ index_before i → Searching separator s at j
    search_goes_on j h positive equal wraps =
        let back : place_after j ≡ i = omega arith in
        record {
          same = rw back (rw (is_separator_lem separator _ positive equal) at (turn h));
          within = omega arith;
          fits = omega arith;
        }

-- the index after the separators from an index on
abbrev pub run_end : ℕ → List ℕ → ℕ → ℕ
run_end separator s i = i + separator_run separator (drop i s)

-- the byte after the separators that a list begins with
pub run_head : (separator : ℕ) (l : List ℕ) → slice_get (drop (separator_run separator l) l) 0 ≡ first_other separator l
run_head separator [] = refl
run_head separator (b ∷ l) = go (is_separator separator b) refl (run_head separator l) where
  go :
      (t : Bool) → is_separator separator b ≡ t
      → slice_get (drop (separator_run separator l) l) 0 ≡ first_other separator l
      → slice_get (drop (separator_run separator (b ∷ l)) (b ∷ l)) 0 ≡ first_other separator (b ∷ l)
  go true e rest = rw e rest
  go false e rest = rw e

-- a search forwards for a byte that is no separator: what it finds, and its turns
module _ (separator : ℕ) (s : List ℕ) (i : ℕ) where
  pub run_byte : byte_at s (run_end separator s i) ≡ first_other separator (drop i s)
  run_byte = rw (← drop-drop (separator_run separator (drop i s)) i s) (run_head separator (drop i s))

  pub run_out : length s ≤ i → i ≡ run_end separator s i
  run_out out = rw (drop_of_length-le s out) (omega arith)

  pub run_stops : i < length s → (get_or s i 0 ≡ separator → ⊥) → i ≡ run_end separator s i
  run_stops h differ = rw (drop-cons s i 0 h, no_separator separator _ differ) (omega arith)

  pub run_over : i < length s → 0 < separator → get_or s i 0 ≡ separator → run_end separator s (i + 1) ≡ run_end separator s i
  run_over h positive same = rw (drop-cons s i 0 h, is_separator_lem separator _ positive same, add-one) (omega arith)

-- a byte lies within the buffer
pub byte_inside : (s : List ℕ) (k b : ℕ) → byte_at s k ≡ Some b → k < length s
byte_inside s k b e = omega (arith, length-drop k s, slice_get_within (drop k s) 0 b e)

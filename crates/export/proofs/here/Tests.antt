-- What is under the cursor, by the tests that the code makes, in their order: for `found_here`. Assumes nothing.
use mathlib.Core.Path.{◌≡◌, ◌∙◌, refl, sym, ap}
use mathlib.Core.Bool.{Bool, true, false, not, ◌&&◌, ◌||◌}
use mathlib.Core.List.{List}
use Prim.Native.Nat.{ℕ, ◌+◌, ◌/◌, ◌^◌, ◌<◌, ◌≤◌}
use lib.Dec.{leb, ltb}
use lib.ListN.{length, get_or}
use borrow.Author.Tests.{le-leb, lt-leb, ltb-true, ltb-false, lt-ltb, le-ltb, eq-eqb, ne_eqb, leb-true}
use Rattle.word.specs.Word.{digit_separator}
use Rattle.reader.specs.Reading.{flags_at, is_consecutive_alone}
use Rattle.export.specs.declared.here.Here.TheVariants.{Byte, End, Separator, Other}
use Rattle.export.specs.State.{state_in, is_edition}
use Rattle.export.specs.Code.Here.{own_flags, is_served, is_clear, under_cursor, here_of}
use Rattle.export.proofs.here.CountedReaders.{own_flags_lem}

-- a test and another's failing, by the test that stops where one of them says so
pub stops : (a b : Bool) → (not a && b) ≡ not (a || not b)
stops true b = refl
stops false true = refl
stops false false = refl

-- the order of two numbers, told either way round
not_above : (a b : ℕ) → leb a b ≡ not (ltb b a)
not_above a b = go (ltb b a) refl where
  go : (t : Bool) → ltb b a ≡ t → leb a b ≡ not (ltb b a)
  go true t = rw t (lt-leb a b (ltb-true b a t))
  go false t = rw t (le-leb a b (ltb-false b a t))

module _ (n : ℕ) (w s : List ℕ) where
  abbrev pub unserved : Bool
  unserved = ltb 2 n || not (is_edition (get_or w 7 0))

  served_by : is_served n w ≡ not unserved
  served_by = rw (not_above n 2) (stops (ltb 2 n) (is_edition (get_or w 7 0)))

  pub here_unserved : unserved ≡ true → Other ≡ here_of n w s
  unfolding here_of
  here_unserved t = rw (served_by, t)

  -- the reader's number, where it is served
  pub low : unserved ≡ false → n ≤ 2
  low t = leb-true n 2 (rw (not_above n 2) (go (ltb 2 n) refl t)) where
    go : (a : Bool) → ltb 2 n ≡ a → unserved ≡ false → not (ltb 2 n) ≡ true
    go true a t = rw a (sym (rw a at t))
    go false a t = rw a

  module _ (served : unserved ≡ false) (small : get_or w 0 0 < 2 ^ 64) (alone fit : Bool)
      (Known-alone : alone ≡ is_consecutive_alone (own_flags (get_or w 0 0 / 2 ^ n)))
      (known-fit : fit ≡ leb (get_or w 3 0 + get_or w 4 0 + get_or w 5 0) (get_or w 2 0)) where
    clear_by : is_clear n w ≡ not (alone || not fit)
    clear_by =
        let own : is_consecutive_alone (flags_at (state_in w).format n) ≡ alone =
        sym (ap is_consecutive_alone (own_flags_lem (state_in w).format n (low served) small)) ∙ sym Known-alone in
        rw (own, sym known-fit) (stops alone fit)

    pub here_unclear : (alone || not fit) ≡ true → Other ≡ here_of n w s
    unfolding here_of
    here_unclear t = rw (served_by, served, clear_by, t)

    module _ (clear : (alone || not fit) ≡ false) where
      by_place : here_of n w s ≡ under_cursor w s
      unfolding here_of
      by_place = rw (served_by, served, clear_by, clear)

      pub here_outside : length s < get_or w 2 0 → Other ≡ here_of n w s
      here_outside out = rw (by_place, lt-ltb (length s) (get_or w 2 0) out)

      module _ (within : get_or w 2 0 ≤ length s) where
        pub here_end : length s ≡ get_or w 2 0 → End ≡ here_of n w s
        here_end e = rw (by_place, le-ltb (length s) (get_or w 2 0) within, eq-eqb (length s) (get_or w 2 0) e)

        module _ (more : length s ≡ get_or w 2 0 → ⊥) where
          pub here_separator : get_or s (get_or w 2 0) 0 ≡ digit_separator (state_in w).format → Separator ≡ here_of n w s
          here_separator e = rw (by_place, le-ltb (length s) (get_or w 2 0) within, ne_eqb (length s) (get_or w 2 0) more, eq-eqb _ _ e)

          pub here_byte : (get_or s (get_or w 2 0) 0 ≡ digit_separator (state_in w).format → ⊥) → Byte (get_or s (get_or w 2 0) 0) ≡ here_of n w s
          here_byte differ = rw (by_place, le-ltb (length s) (get_or w 2 0) within, ne_eqb (length s) (get_or w 2 0) more, ne_eqb _ _ differ)

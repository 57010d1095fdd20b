-- The three readers that count, by their numbers: their flags in the lower half, and the words that a count of theirs changes: for the
-- quick ways. Assumes nothing.
use Rattle.std.specs.Prelude.{Some}
use mathlib.Core.Path.{◌≡◌, ◌∙◌, refl, ap}
use mathlib.Core.Bool.{Bool, true, false, cond}
use mathlib.Core.List.{List, [], ◌∷◌}
use Prim.Native.Nat.{ℕ, zero, suc, ◌+◌, ◌/◌, ◌%◌, ◌^◌, ◌<◌, ◌≤◌}
use native.Mathlib.Omega.{arith}
use lib.Dec.{eqb}
use lib.ListN.{get_or}
use lib.Pow as pow
use Rattle.word.specs.declared.format_flags.Format.{Format}
use Rattle.word.specs.Bits.{bit}
use Rattle.word.specs.Word.{field, flag}
use Rattle.word.proofs.format_flags.Halves.{low_half}
use Rattle.reader.specs.declared.state.Reader.{Reader}
use Rattle.reader.specs.declared.state.Reader.TheVariants.{Integer, Fraction, Exponent}
use Rattle.reader.specs.declared.state.State.{State}
use Rattle.reader.specs.Reading.{flags_at, flags_of}
use Rattle.reader.specs.State.{reader_named, is_counted, count_of, moved_to, counted_by}
use Rattle.reader.specs.Code.TakeSums.{with_count}
use Rattle.export.specs.State.{state_in, state_words, is_edition, reader_on}
use Rattle.export.specs.Code.Here.{own_flags, words_at}

pub record CountedReader (n : ℕ) : Type 0 where
  pub reader : Reader
  pub named : reader_named n ≡ Some reader
  pub flags : (f : Format) → flags_of f reader ≡ flags_at f n
  pub counts : is_counted reader ≡ true

pub counted_reader : (n : ℕ) → n ≤ 2 → CountedReader n
unfolding reader_named flags_of
counted_reader zero h = record { reader = Integer; named = refl; flags = λ f. refl; counts = refl }
counted_reader (suc zero) h = record { reader = Fraction; named = refl; flags = λ f. refl; counts = refl }
counted_reader (suc (suc zero)) h = record { reader = Exponent; named = refl; flags = λ f. refl; counts = refl }
counted_reader (suc (suc (suc n))) h = absurd (omega (arith, h))

-- it is the one that the byte names on a known edition
pub named_on : (n edition : ℕ) (low : n ≤ 2) → is_edition edition ≡ true → reader_on n edition ≡ Some (counted_reader n low).reader
unfolding reader_on
named_on n edition low known = rw known (counted_reader n low).named

-- a bit of the lower half shifted down is the word's flag so much higher
bit_shifted : (f : Format) (n k : ℕ) → f.lo < 2 ^ 64 → k + n < 64 → bit (f.lo / 2 ^ n) k ≡ flag f (k + n)
unfolding bit flag field
bit_shifted f n k small fits =
    let same : n + k ≡ k + n = omega arith in
    ap (λ (m : ℕ). eqb (m % 2 ^ 1) 1) (pow.shr-shr f.lo n k ∙ ap (λ (j : ℕ). f.lo / 2 ^ j) same)
    ∙ ap (λ (m : ℕ). eqb m 1) (low_half f (k + n) 1 small (omega arith))

pub own_flags_lem : (f : Format) (n : ℕ) → n ≤ 2 → f.lo < 2 ^ 64 → own_flags (f.lo / 2 ^ n) ≡ flags_at f n
own_flags_lem f n low small =
    rw (bit_shifted f n 32 small (omega arith), bit_shifted f n 35 small (omega arith), bit_shifted f n 38 small (omega arith), bit_shifted f n 41 small (omega arith)) refl

-- the words at a place, where a byte is counted or not
pub at_words : (n : ℕ) (low : n ≤ 2) (w : List ℕ) (up : Bool) (place : ℕ)
    → words_at w n up place
    ≡ state_words w (cond up (counted_by (moved_to (state_in w) place) (counted_reader n low).reader) (moved_to (state_in w) place))
unfolding counted_by moved_to counted_reader
at_words zero low w true place = refl
at_words zero low w false place = refl
at_words (suc zero) low w true place = refl
at_words (suc zero) low w false place = refl
at_words (suc (suc zero)) low w true place = refl
at_words (suc (suc zero)) low w false place = refl
at_words (suc (suc (suc n))) low w up place = absurd (omega (arith, low))

-- the word of the reader's own count
pub own_count_word : (n : ℕ) (low : n ≤ 2) (w : List ℕ) → count_of (state_in w) (counted_reader n low).reader ≡ get_or w (3 + n) 0
unfolding count_of counted_reader
own_count_word zero low w = refl
own_count_word (suc zero) low w = refl
own_count_word (suc (suc zero)) low w = refl
own_count_word (suc (suc (suc n))) low w = absurd (omega (arith, low))

-- the words of a state whose counts were 0, at a place with a count
pub end_words_lem : (n : ℕ) (low : n ≤ 2) (w : List ℕ) (st : State) (at count : ℕ)
    → st.integer.0 ≡ 0 → st.fraction.0 ≡ 0 → st.exponent.0 ≡ 0
    → (st.format.lo ∷ st.format.hi ∷ at ∷ cond (eqb n 0) count 0 ∷ cond (eqb n 1) count 0 ∷ cond (eqb n 2) count 0 ∷ get_or w 6 0 ∷ get_or w 7 0 ∷ [])
    ≡ state_words w (with_count (moved_to st at) (counted_reader n low).reader count)
unfolding with_count moved_to counted_reader
end_words_lem zero low w st at count i f e = rw (f, e) refl
end_words_lem (suc zero) low w st at count i f e = rw (i, e) refl
end_words_lem (suc (suc zero)) low w st at count i f e = rw (i, f) refl
end_words_lem (suc (suc (suc n))) low w st at count i f e = absurd (omega (arith, low))

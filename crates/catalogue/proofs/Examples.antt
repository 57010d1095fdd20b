-- Acts on a catalogue worked out from the definitions, by computation. Assumes nothing.
use Rattle.std.proofs.Common.{◌≡◌, ℕ, zero, suc, ◌+◌, List, [], ◌∷◌, map, refl}
use Rattle.word.specs.declared.format_flags.Format.{Format}
use Rattle.word.specs.Bits.{bit}
use Rattle.word.specs.Word.{word, field, flag, radix_at}
use Rattle.word.specs.Digit.{digit_value, is_digit}
use Rattle.word.specs.Check.{valid_control_in, valid_control, valid_punctuation, valid_exponent_flags, consecutive_alone, radix_lines, control_lines, flag_lines, consecutive_lines, full_check}
use Rattle.catalogue.specs.declared.entries.Entry.{Entry}
use Rattle.catalogue.specs.Catalogue.{listing, add_number, added, remove_number, removed}
use Rattle.catalogue.specs.Acts.{Act, add, remove, number_for, catalogue_after}

-- what is seen of the last act: its number, the tally behind it, and the schools listed
pub record Shown : Type 0 where
  pub number : ℕ
  pub tally : ℕ
  pub schools : List ℕ

abbrev pub outcome : List Act → Shown
outcome [] = record { number = 0; tally = 0; schools = [] }
outcome (act ∷ earlier) =
    record {
      number = number_for (catalogue_after earlier) act;
      tally = (catalogue_after (act ∷ earlier)).tally;
      schools = map (λ (e : Entry). e.school) (listing (catalogue_after (act ∷ earlier)));
    }

pub record Example : Type 0 where
  pub acts : List Act
  pub shows : Shown

-- radix 10; separator `_` between integer digits, none, and the same with separator `1`, which the check refuses with 4
abbrev pub spaced : Format
spaced = record { lo = 4294967296; hi = 10995116277855 }

abbrev pub plain : Format
plain = record { lo = 0; hi = 10995116277760 }

abbrev pub refused_word : Format
refused_word = record { lo = 4294967296; hi = 10995116277809 }

-- schools 2, 4, .. 2k, the largest added last
abbrev pub filled : ℕ → List Act
filled zero = []
filled (suc k) = add (suc k + suc k) plain ∷ filled k

abbrev pub shows : List Act → ℕ → ℕ → List ℕ → Example
shows acts number tally schools = record { acts = acts; shows = record { number = number; tally = tally; schools = schools } }

-- the latest act first
abbrev pub two : List Act
two = add 42 spaced ∷ add 310 plain ∷ []

abbrev pub examples : List Example
examples =
    shows two 0 1 (42 ∷ 310 ∷ [])
    ∷ shows (add 7 spaced ∷ two) 0 2 (7 ∷ 42 ∷ 310 ∷ [])
    ∷ shows (add 65535 spaced ∷ two) 0 2 (42 ∷ 310 ∷ 65535 ∷ [])
    ∷ shows (add 7 refused_word ∷ two) 4 1 (42 ∷ 310 ∷ [])
    ∷ shows (add 42 refused_word ∷ two) 4 1 (42 ∷ 310 ∷ [])
    ∷ shows (add 42 plain ∷ two) 25 1 (42 ∷ 310 ∷ [])
    ∷ shows (add 0 spaced ∷ two) 25 1 (42 ∷ 310 ∷ [])
    ∷ shows (remove 42 ∷ two) 0 0 (310 ∷ [])
    ∷ shows (add 42 plain ∷ remove 42 ∷ two) 0 0 (42 ∷ 310 ∷ [])
    ∷ shows (remove 7 ∷ two) 27 1 (42 ∷ 310 ∷ [])
    ∷ shows (remove 0 ∷ two) 27 1 (42 ∷ 310 ∷ [])
    ∷ []

pub examples_hold : map (λ (e : Example). outcome e.acts) examples ≡ map (λ (e : Example). e.shows) examples
unfolding bit word field flag radix_at digit_value is_digit valid_control_in valid_control valid_punctuation valid_exponent_flags consecutive_alone radix_lines control_lines flag_lines consecutive_lines full_check add_number added remove_number removed
examples_hold = refl

-- a full catalogue: a listed school is told by 25, another by 26, and behind a removal it is added
pub full : map (λ (acts : List Act). (outcome acts).number) ((add 64 plain ∷ filled 64) ∷ (add 65 plain ∷ filled 64) ∷ (add 65 plain ∷ remove 128 ∷ filled 64) ∷ []) ≡ 25 ∷ 26 ∷ 0 ∷ []
unfolding bit word field flag radix_at digit_value is_digit valid_control_in valid_control valid_punctuation valid_exponent_flags consecutive_alone radix_lines control_lines flag_lines consecutive_lines full_check add_number added remove_number removed
full = refl

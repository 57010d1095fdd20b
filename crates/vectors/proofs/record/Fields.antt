-- A line's fields: where one ends, for `until_space`, what one more does, for `with_field`, and all of them in order, for `parse`.
-- Assumes nothing.
use Rattle.std.proofs.Common.{◌≡◌, ℕ, zero, suc, ◌+◌, ◌-◌, ◌≤◌, ◌<◌, List, [], ◌∷◌, ◌==◌, length, take, drop, get_or, refl, ap, ◌∙◌, add-one, arith, drop-cons, length-drop, sym, Option, None, Some}
use lib.ListN.{drop_of_length-le}
use lib.Seq.{drop-drop}
use Rattle.std.proofs.lemmas.List.{take_rest}
use Rattle.std.specs.Prelude.{cond, not, nat_lt}
use Rattle.std.specs.Option.{unwrap_or}
use Rattle.std.specs.List.{position, position_or_len}
use Rattle.std.proofs.lemmas.List.Sums.{prefix_len-le-length}
use borrow.Author.Tests.{ne_eqb, lt-ltb, le-ltb}
use Rattle.std.proofs.lemmas.List.Recursion.{is_position_or_len}
use Rattle.vectors.specs.declared.record.Record.{Record}
use Rattle.vectors.specs.declared.record.Kind.{Kind}
use Rattle.vectors.specs.Hex.{read_hex}
use Rattle.vectors.specs.Line.{kind_of, of_kind, if_kind, if_record, added, with_field, until_space, with_fields, record_of}

until_space_is : (l : List ℕ) → until_space l ≡ position_or_len (λ c. c == 32) l
unfolding until_space
until_space_is l = is_position_or_len until_space (λ c. c == 32) refl (λ c rest. ap (cond (c == 32) 0) (omega arith)) l

or_end : (n end : ℕ) → n ≤ end → unwrap_or (cond (nat_lt n end) (Some n) None) end ≡ n
or_end n end within = grind arith

pub to_space : (l : List ℕ) → unwrap_or (position (λ c. c == 32) l) (length l) ≡ until_space l
to_space l =
    or_end (position_or_len (λ c. c == 32) l) (length l) (prefix_len-le-length (λ c. not (c == 32)) l) ∙ sym (until_space_is l)

pub within_line : (l : List ℕ) → until_space l ≤ length l
within_line l = rw (until_space_is l) (prefix_len-le-length (λ c. not (c == 32)) l)

module _ (r : Record) (field : List ℕ) where
  pub no_room : 8 ≤ r.count → None ≡ with_field r field
  unfolding with_field
  no_room full = rw (le-ltb r.count 8 full)

  module _ (room : r.count < 8) where
    pub no_field : length field ≡ 0 → None ≡ with_field r field
    unfolding with_field
    no_field blank = rw (lt-ltb r.count 8 room, blank)

    module _ (first : ℕ) (digits : List ℕ) (is : field ≡ first ∷ digits) where
      pub no_space : (first ≡ 32 → ⊥) → None ≡ with_field r field
      unfolding with_field
      no_space other = rw (is, lt-ltb r.count 8 room, lt-ltb 0 (suc (length digits)) (omega arith), ne_eqb first 32 other)

      pub with_number : (n : Option ℕ) → first ≡ 32 → n ≡ read_hex digits → added r (length digits) n ≡ with_field r field
      unfolding with_field
      with_number n space told =
          let one_less : suc (length digits) - 1 ≡ length digits = omega arith in
          rw (is, lt-ltb r.count 8 room, lt-ltb 0 (suc (length digits)) (omega arith), space, one_less, told)

-- bytes that are still to be passed are passed
passed_over : (left : ℕ) (r : Record) (l : List ℕ) → with_fields left r l ≡ with_fields 0 r (drop left l)
unfolding with_fields
passed_over zero r l = refl
passed_over (suc left) r [] = refl
passed_over (suc left) r (c ∷ rest) = passed_over left r rest

-- one more field
a_field : (r : Record) (c : ℕ) (rest : List ℕ) → with_fields 0 r (c ∷ rest)
    ≡ if_record (with_field r (c ∷ take (until_space rest) rest)) (λ after. with_fields (until_space rest) after rest)
unfolding with_fields
a_field r c rest = refl

all_passed : (o : Option Record) (w at : ℕ) (line : List ℕ)
    → if_record o (λ after. with_fields w after (drop at line)) ≡ if_record o (λ after. with_fields 0 after (drop (at + w) line))
all_passed None w at line = refl
all_passed (Some after) w at line = passed_over w after (drop at line) ∙ ap (with_fields 0 after) (drop-drop w at line)

module _ (line : List ℕ) where
  pub no_line : length line ≡ 0 → None ≡ record_of line
  unfolding record_of
  no_line blank = go line blank where
    go : (l : List ℕ) → length l ≡ 0 → None ≡ record_of l
    go [] blank = refl
    go (letter ∷ rest) blank = absurd (omega (arith, blank))

  module _ (letter : ℕ) (rest : List ℕ) (is : line ≡ letter ∷ rest) (named : Option Kind) (of : kind_of letter ≡ named) where
    begins : record_of line ≡ if_kind named (λ kind. with_fields 0 (of_kind kind) (drop 1 line))
    unfolding record_of
    begins = rw (is, of)

    pub no_kind : named ≡ None → None ≡ record_of line
    no_kind e = sym (rw e at begins)

    pub a_kind : (kind : Kind) (r : Record) → named ≡ Some kind → r ≡ of_kind kind → with_fields 0 r (drop 1 line) ≡ record_of line
    a_kind kind r e made = rw made (sym (rw e at begins))

  pub inside_line : (at w : ℕ) → at < length line → w ≤ length (take (length line - (at + 1)) (drop (at + 1) line)) → at + 1 + w ≤ length line
  inside_line at w inside h =
      let left : w ≤ length line - (at + 1) = rw (take_rest line (at + 1), length-drop (at + 1) line) at h in omega (arith, left, inside)

  pub next_field : (r : Record) (o : Option Record) (at w : ℕ) → at < length line
      → w ≡ until_space (take (length line - (at + 1)) (drop (at + 1) line))
      → o ≡ with_field r (take (at + 1 + w - at) (drop at line))
      → with_fields 0 r (drop at line) ≡ if_record o (λ after. with_fields 0 after (drop (at + 1 + w) line))
  next_field r o at w inside to is =
      let rest = drop (at + 1) line in
      let cut : drop at line ≡ get_or line at 0 ∷ rest = rw add-one (drop-cons line at 0 inside) in
      let size : at + 1 + w - at ≡ suc w = omega arith in
      let told : o ≡ with_field r (get_or line at 0 ∷ take w rest) = is ∙ rw (size, cut) in
      let until : w ≡ until_space rest = to ∙ ap until_space (take_rest line (at + 1)) in
      rw (cut, a_field r (get_or line at 0) rest, ← until, ← told) (all_passed o w (at + 1) line)

  pub fields_end : (r : Record) (at : ℕ) → length line ≤ at → with_fields 0 r (drop at line) ≡ Some r
  unfolding with_fields
  fields_end r at end = rw (drop_of_length-le line end)

-- Ordinary cells side by side add what they add as one, and the walk over a column of cells: for `past_ordinary` and the sums.
-- Assumes nothing.
use Rattle.std.proofs.Common.{◌≡◌, ℕ, suc, ◌+◌, ◌-◌, ◌<◌, ◌≤◌, Bool, true, false, ltb, List, [], ◌∷◌, ◌++◌, length, get_or, drop, sym, refl, ap, ◌∙◌, zero-add, add-one, arith, length-append, drop-cons, drop-drop, take-add, ltb-false, ltb-true, ne_eqb, le-leb}
use Rattle.word.specs.Digit.{is_digit}
use Rattle.word.specs.declared.format_flags.Format.{Format}
use Rattle.reader.specs.declared.state.Reader.{Reader}
use Rattle.reader.specs.declared.passing.Syntax.{Syntax}
use Rattle.reader.specs.declared.pairs.Pairs.{Pairs}
use Rattle.reader.specs.declared.column.Totals.{Totals}
use Rattle.reader.specs.Place.{is_separator}
use Rattle.reader.specs.Reading.{Reading, reading_with}
use Rattle.reader.specs.State.{fresh_of}
use Rattle.reader.specs.Calls.{refusal_with}
use Rattle.reader.specs.Code.Pairs.{matches_before, pairs_of}
use Rattle.reader.specs.Column.{part_from, bound_of, no_totals, add_totals, cell_totals, column_from}
use Rattle.reader.specs.Code.OrdinaryCells.{Countable, Ordinary, Stretch, passing, digits_of, ordinary_totals}
use Rattle.reader.proofs.passing.Places.{is_separator_lem}
use Rattle.reader.proofs.pairs.Counts.{at_most_one, pairs_below}
use Rattle.reader.proofs.column.OrdinaryCell.{ordinary_told}
use Rattle.reader.proofs.column.Cells.{part_length, part_byte}

-- a part, and the part behind it
pub parts_join : (s : List ℕ) (start mid end : ℕ) → start ≤ mid → mid ≤ end → part_from s start end ≡ part_from s start mid ++ part_from s mid end
parts_join s start mid end h k =
    let joint : end - start ≡ (mid - start) + (end - mid) = omega arith in
    let there : start + (mid - start) ≡ mid = omega arith in
    rw (joint, take-add (mid - start) (end - mid) (drop start s), drop-drop (mid - start) start s, there)

-- what is countable in a buffer is countable in a part of it
pub countable_part : (x : Syntax) (r : Reader) (s : List ℕ) (start end : ℕ) → start ≤ end → end ≤ length s → Countable x r s → Countable x r (part_from s start end)
countable_part x r s start end h k q =
    record {
      counts = q.counts;
      positive = q.positive;
      apart = q.apart;
      single =
          λ c i inside first second.
          let size = part_length s start end h k in
          let next : start + (i + 1) ≡ start + i + 1 = omega arith in
          q.single c (start + i) (omega arith)
          (sym (part_byte s start end h k i (omega arith)) ∙ first)
          (rw next at (sym (part_byte s start end h k (i + 1) (omega arith)) ∙ second));
    }

digits_join : (radix : ℕ) (a b : List ℕ) → digits_of radix (a ++ b) ≡ digits_of radix a + digits_of radix b
digits_join radix [] b = sym (zero-add (digits_of radix b))
digits_join radix (d ∷ a) b = omega (arith, digits_join radix a b)

-- no pair lies across two parts where the first does not end with the separator
pairs_join : (x : Syntax) (a b : List ℕ) → (0 < length a → is_separator x.separator (get_or a (length a - 1) 0) ≡ false) → 0 < x.separator
    → pairs_of (passing x) (a ++ b) ≡ pairs_of (passing x) a + pairs_of (passing x) b
unfolding is_separator
pairs_join x [] b plain positive = sym (zero-add (pairs_of (passing x) b))
pairs_join x (d ∷ []) b plain positive = rw (alone b) where
  other : is_separator x.separator d ≡ false
  other = let first : length {A = ℕ} (d ∷ []) - 1 ≡ 0 = omega arith in rw first at (plain (omega arith))

  differ : d ≡ x.separator → ⊥
  differ e = cc (sym other ∙ is_separator_lem x.separator d positive e)

  alone : (l : List ℕ) → matches_before (passing x) d l ≡ false
  alone [] = refl
  alone (n ∷ l) = rw (ne_eqb d x.separator differ)
pairs_join x (d ∷ n ∷ a) b plain positive =
    let last : length {A = ℕ} (d ∷ n ∷ a) - 1 ≡ suc (length {A = ℕ} (n ∷ a) - 1) = omega arith in
    omega (arith, pairs_join x (n ∷ a) b (λ h. rw last at (plain (omega arith))) positive)

pub pairs_within : (p : Pairs) (l : List ℕ) → pairs_of p l ≤ length l
pairs_within p [] = omega arith
pairs_within p (b ∷ l) = omega (arith, pairs_below p (b ∷ l) (omega arith))

pub digits_within : (radix : ℕ) (l : List ℕ) → digits_of radix l ≤ length l
digits_within radix [] = omega arith
digits_within radix (b ∷ l) = omega (arith, at_most_one (is_digit b radix), digits_within radix l)

pub same_totals : (a b : Totals) → a.taken ≡ b.taken → a.passed ≡ b.passed → a.digits ≡ b.digits → a ≡ b
same_totals a b t p d = rw (t, p, d)

pub add_totals_assoc : (a b c : Totals) → add_totals a (add_totals b c) ≡ add_totals (add_totals a b) c
add_totals_assoc a b c = same_totals (add_totals a (add_totals b c)) (add_totals (add_totals a b) c) (omega arith) (omega arith) (omega arith)

-- so ordinary cells side by side add what they add as one
totals_join : (x : Syntax) (a b : List ℕ) → (0 < length a → is_separator x.separator (get_or a (length a - 1) 0) ≡ false) → 0 < x.separator
    → add_totals (ordinary_totals x a) (ordinary_totals x b) ≡ ordinary_totals x (a ++ b)
totals_join x a b plain positive =
    let p = pairs_join x a b plain positive in
    same_totals (add_totals (ordinary_totals x a) (ordinary_totals x b)) (ordinary_totals x (a ++ b))
    (omega (arith, p, length-append a b, pairs_within (passing x) a, pairs_within (passing x) b))
    (sym p)
    (sym (digits_join x.radix a b))

-- a call that is refused on no buffer is refused on none of its parts
pub refused_alike : (x : Syntax) (s t : List ℕ) (f : Format) (r : Reader) → refusal_with x.flags s (fresh_of f) r ≡ 0 → refusal_with x.flags t (fresh_of f) r ≡ 0
unfolding refusal_with
refused_alike x s t f r clear = rw (le-leb 0 (length t) (omega arith)) (rw (le-leb 0 (length s) (omega arith)) at clear)

-- what an ordinary cell of a buffer adds
ordinary_cell : (x : Syntax) (r : Reader) (s : List ℕ) (f : Format) (start end : ℕ) → start ≤ end → end ≤ length s → Countable x r s
    → Ordinary x (part_from s start end) → refusal_with x.flags s (fresh_of f) r ≡ 0
    → cell_totals (reading_with x) f r (part_from s start end) ≡ ordinary_totals x (part_from s start end)
unfolding reading_with
ordinary_cell x r s f start end h k q ordinary clear =
    ordinary_told x r (part_from s start end) (countable_part x r s start end h k q) f ordinary (refused_alike x s (part_from s start end) f r clear)

-- the next cell of a column, and the rest
pub column_at : (m : Reading) (f : Format) (r : Reader) (s ends : List ℕ) (k at : ℕ) → k < length ends
    → column_from m f r s at (drop k ends)
    ≡ add_totals (cell_totals m f r (part_from s at (bound_of s at (get_or ends k 0)))) (column_from m f r s (bound_of s at (get_or ends k 0)) (drop (k + 1) ends))
unfolding column_from
column_at m f r s ends k at more = rw (add-one, drop-cons ends k 0 more)

-- A walk over cells from one on has come to another: all between are ordinary, and what they add is told.
pub record Walked (x : Syntax) (s ends : List ℕ) (quick : Bool) (cell start k at : ℕ) : Type 0 where
  pub onward : cell ≤ k
  pub cells : k ≤ length ends
  pub ordered : start ≤ at
  pub inside : at ≤ length s
  pub plain : start < at → is_separator x.separator (get_or s (at - 1) 0) ≡ false
  pub totals :
      (r : Reader) (f : Format) → (quick ≡ true → Countable x r s) → refusal_with x.flags s (fresh_of f) r ≡ 0
      → column_from (reading_with x) f r s start (drop cell ends)
      ≡ add_totals (ordinary_totals x (part_from s start at)) (column_from (reading_with x) f r s at (drop k ends))

module _ (x : Syntax) (s ends : List ℕ) (quick : Bool) (cell start : ℕ) where
  pub walk_starts : cell ≤ length ends → start ≤ length s → Walked x s ends quick cell start cell start
  walk_starts h l =
      record {
        onward = omega arith;
        cells = h;
        ordered = omega arith;
        inside = l;
        plain = λ p. absurd (omega arith);
        totals = λ r f q clear. nothing_yet (column_from (reading_with x) f r s start (drop cell ends));
      } where
        nothing_yet : (c : Totals) → c ≡ add_totals (ordinary_totals x (part_from s start start)) c
        nothing_yet c =
            let empty : start - start ≡ 0 = omega arith in
            rw empty (same_totals c (add_totals no_totals c) (omega arith) (omega arith) (omega arith))

  pub walk_goes_on : (k at end : ℕ) → Walked x s ends quick cell start k at → k < length ends → end ≡ bound_of s at (get_or ends k 0)
      → Ordinary x (part_from s at end) → quick ≡ true → Walked x s ends quick cell start (k + 1) end
  walk_goes_on k at end here more bound ordinary so =
      let ordered : at ≤ end = omega (arith, here.inside) in
      let within : end ≤ length s = omega arith in
      record {
        onward = omega (arith, here.onward);
        cells = omega arith;
        ordered = omega (arith, here.ordered);
        inside = within;
        plain = plain_end ordered within;
        totals = totals_on ordered within;
      } where
        last_of_part : (ordered : at ≤ end) (within : end ≤ length s) → at < end → is_separator x.separator (get_or s (end - 1) 0) ≡ false
        last_of_part ordered within p =
            let size = part_length s at end ordered within in
            let last = ordinary.ends (omega arith) in
            let place : at + (length (part_from s at end) - 1) ≡ end - 1 = omega arith in
            rw place at (rw (part_byte s at end ordered within (length (part_from s at end) - 1) (omega arith)) at last)

        plain_end : (ordered : at ≤ end) (within : end ≤ length s) → start < end → is_separator x.separator (get_or s (end - 1) 0) ≡ false
        plain_end ordered within p = go (ltb at end) refl where
          go : (t : Bool) → ltb at end ≡ t → is_separator x.separator (get_or s (end - 1) 0) ≡ false
          go true t = last_of_part ordered within (ltb-true at end t)
          go false t = let same : at ≡ end = omega (arith, ltb-false at end t) in rw same at (here.plain (omega arith))

        plain_part : 0 < x.separator → 0 < length (part_from s start at) → is_separator x.separator (get_or (part_from s start at) (length (part_from s start at) - 1) 0) ≡ false
        plain_part positive p =
            let size = part_length s start at here.ordered here.inside in
            let place : start + (length (part_from s start at) - 1) ≡ at - 1 = omega (arith, here.ordered) in
            rw (part_byte s start at here.ordered here.inside (length (part_from s start at) - 1) (omega arith), place) (here.plain (omega arith))

        totals_on : (ordered : at ≤ end) (within : end ≤ length s) (r : Reader) (f : Format) → (quick ≡ true → Countable x r s) → refusal_with x.flags s (fresh_of f) r ≡ 0
            → column_from (reading_with x) f r s start (drop cell ends)
            ≡ add_totals (ordinary_totals x (part_from s start end)) (column_from (reading_with x) f r s end (drop (k + 1) ends))
        totals_on ordered within r f countable clear =
            let q = countable so in
            let one = ordinary_cell x r s f at end ordered within q ordinary clear in
            let rest = column_from (reading_with x) f r s end (drop (k + 1) ends) in
            let split : column_from (reading_with x) f r s at (drop k ends) ≡ add_totals (ordinary_totals x (part_from s at end)) rest =
            column_at (reading_with x) f r s ends k at more
            ∙ ap (λ (e : ℕ). add_totals (cell_totals (reading_with x) f r (part_from s at e)) (column_from (reading_with x) f r s e (drop (k + 1) ends))) (sym bound)
            ∙ ap (λ (t : Totals). add_totals t rest) one in
            here.totals r f countable clear
            ∙ ap (add_totals (ordinary_totals x (part_from s start at))) split
            ∙ add_totals_assoc (ordinary_totals x (part_from s start at)) (ordinary_totals x (part_from s at end)) rest
            ∙ ap (λ (t : Totals). add_totals t rest)
            (totals_join x (part_from s start at) (part_from s at end) (plain_part q.positive) q.positive
            ∙ ap (ordinary_totals x) (sym (parts_join s start at end here.ordered ordered)))

  -- where the walk stops, the stretch is told
  pub walk_ends : (r : Reader) → (quick ≡ true → Countable x r s) → (k at : ℕ) → Walked x s ends quick cell start k at
      → Stretch x r s ends cell start (record { cell = k; at = at })
  walk_ends r countable k at here =
      record {
        onward = here.onward;
        cells = here.cells;
        ordered = here.ordered;
        inside = here.inside;
        totals = λ f clear. here.totals r f countable clear;
      }

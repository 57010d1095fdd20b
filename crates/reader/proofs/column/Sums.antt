-- The sums over a column's cells, as its loop adds them: stretch by stretch or cell by cell; and the call's outcome. Assumes nothing.
use Rattle.std.proofs.Common.{◌≡◌, ℕ, ◌+◌, ◌-◌, ◌≤◌, List, [], ◌∷◌, length, drop, sym, refl, ap, ◌∙◌, arith, length-drop, drop-drop}
use Rattle.std.proofs.lemmas.List.{nil_from_length}
use Rattle.word.specs.declared.format_flags.Format.{Format}
use Rattle.reader.specs.declared.state.Reader.{Reader}
use Rattle.reader.specs.declared.state.Refusal.{Refusal}
use Rattle.reader.specs.declared.passing.Syntax.{Syntax}
use Rattle.reader.specs.declared.column.Totals.{Totals}
use Rattle.reader.specs.declared.column.Reached.{Reached}
use Rattle.reader.specs.Reading.{Reading, reading_with}
use Rattle.reader.specs.State.{fresh_of}
use Rattle.reader.specs.Answer.{number_of}
use Rattle.reader.specs.Calls.{refusal_with}
use Rattle.reader.specs.Column.{part_from, bound_of, no_totals, add_totals, cell_totals, column_from, ColumnOutcome, column_of}
use Rattle.reader.specs.Code.OrdinaryCells.{Stretch, passing, ordinary_totals}
use Rattle.reader.proofs.state.Refusals.{refusal_tells}
use Rattle.reader.proofs.column.Cells.{part_length}
use Rattle.reader.proofs.column.Stretches.{add_totals_assoc, digits_within, pairs_within, same_totals}

-- what a stretch adds is no more than its bytes
pub stretch_size : (x : Syntax) (l : List ℕ) → ((ordinary_totals x l).taken + (ordinary_totals x l).passed ≡ length l) × ((ordinary_totals x l).digits ≤ length l)
stretch_size x l = (omega (arith, pairs_within (passing x) l), digits_within x.radix l)

-- what is left of a list is what stands behind as many as are gone, and so is what is left of that
abbrev pub IsLeft : List ℕ → List ℕ → Type 0
IsLeft ends left = (length left ≤ length ends) × (left ≡ drop (length ends - length left) ends)

left_on : (ends left : List ℕ) (k : ℕ) → k ≤ length left → IsLeft ends left → IsLeft ends (drop k left)
left_on ends left k inside here =
    let size = length-drop k left in
    let gone : length ends - length left + k ≡ length ends - length (drop k left) = omega (arith, size, here.0) in
    (omega (arith, size, here.0), ap (drop k) here.1 ∙ drop-drop k (length ends - length left) ends ∙ ap (λ (i : ℕ). drop i ends) gone)

-- The sums over a column's cells but the last, those that `left` ends, of which the first begins at `at`.
pub record Summed (x : Syntax) (f : Format) (r : Reader) (s ends : List ℕ) (sums : Totals) (left : List ℕ) (at : ℕ) : Type 0 where
  pub cells : IsLeft ends left
  pub inside : at ≤ length s
  pub size : sums.taken + sums.passed ≤ at
  pub digits : sums.digits ≤ at
  pub totals : column_from (reading_with x) f r s 0 ends ≡ add_totals sums (column_from (reading_with x) f r s at left)

module _ (x : Syntax) (f : Format) (r : Reader) (s ends : List ℕ) where
  pub sums_start : Summed x f r s ends no_totals ends 0
  sums_start =
      let c = column_from (reading_with x) f r s 0 ends in
      let none : length ends - length ends ≡ 0 = omega arith in
      record {
        cells = (omega arith, rw none refl);
        inside = omega arith;
        size = omega arith;
        digits = omega arith;
        totals = same_totals c (add_totals no_totals c) (omega arith) (omega arith) (omega arith);
      }

  module _ (sums : Totals) (left : List ℕ) (at : ℕ) (here : Summed x f r s ends sums left at) where
    -- a stretch of ordinary cells more
    pub sums_stretch : (to : Reached) → Stretch x r s left 0 at to → refusal_with x.flags s (fresh_of f) r ≡ 0
        → Summed x f r s ends (add_totals sums (ordinary_totals x (part_from s at to.at))) (drop to.cell left) to.at
    sums_stretch to stretch clear =
        let size = stretch_size x (part_from s at to.at) in
        let long = part_length s at to.at stretch.ordered stretch.inside in
        record {
          cells = left_on ends left to.cell stretch.cells here.cells;
          inside = stretch.inside;
          size = omega (arith, here.size, size.0, long, stretch.ordered);
          digits = omega (arith, here.digits, size.1, long, stretch.ordered);
          totals =
              here.totals
              ∙ ap (add_totals sums) (stretch.totals f clear)
              ∙ add_totals_assoc sums (ordinary_totals x (part_from s at to.at)) (column_from (reading_with x) f r s to.at (drop to.cell left));
        }

    -- one cell more
    pub sums_cell : (told : ℕ) (behind : List ℕ) → left ≡ told ∷ behind → (end : ℕ) (one : Totals) → end ≡ bound_of s at told
        → one ≡ cell_totals (reading_with x) f r (part_from s at end)
        → one.taken + one.passed ≤ length (part_from s at end) → one.digits ≤ length (part_from s at end)
        → Summed x f r s ends (add_totals sums one) behind end
    unfolding column_from
    sums_cell told behind next end one bound known size digits =
        let ordered : at ≤ end = omega (arith, here.inside) in
        let within : end ≤ length s = omega arith in
        let long = part_length s at end ordered within in
        let rest = column_from (reading_with x) f r s end behind in
        record {
          cells = rw next at (left_on ends left 1 (omega (arith, ap length next)) here.cells);
          inside = within;
          size = omega (arith, here.size);
          digits = omega (arith, here.digits);
          totals =
              rw next at here.totals
              ∙ ap (add_totals sums)
              (ap (λ (e : ℕ). add_totals (cell_totals (reading_with x) f r (part_from s at e)) (column_from (reading_with x) f r s e behind)) (sym bound)
              ∙ ap (λ (t : Totals). add_totals t rest) (sym known))
              ∙ add_totals_assoc sums one rest;
        }

    -- behind the last cell
    pub sums_end : length left ≡ 0 → sums ≡ column_from (reading_with x) f r s 0 ends
    unfolding column_from
    sums_end out =
        let over : left ≡ [] = nil_from_length left out in
        sym (here.totals ∙ rw over (same_totals (add_totals sums no_totals) sums (omega arith) (omega arith) (omega arith)))

-- the call's outcome: the sums, or its refusal
module _ (m : Reading) (f : Format) (r : Reader) (s ends : List ℕ) where
  pub column_read : (t : Totals) → refusal_with m.flags s (fresh_of f) r ≡ 0 → t ≡ column_from m f r s 0 ends
      → ◌≡◌ {A = ColumnOutcome} (record { refusal = 0; totals = t }) (column_of m f r s ends)
  unfolding column_of
  column_read t clear sums = rw (clear, sums)

  pub column_refused : (e : Refusal) → number_of e ≡ refusal_with m.flags s (fresh_of f) r
      → ◌≡◌ {A = ColumnOutcome} (record { refusal = number_of e; totals = no_totals }) (column_of m f r s ends)
  unfolding column_of
  column_refused e number = rw (sym number, refusal_tells e)

-- Laws of the cells of a column: when a cell is ordinary, when those of a buffer may be counted together (`Countable`), and what a
-- stretch and a cell add: for the functions of src/column.rt. Assumes nothing.
use Rattle.std.proofs.Common.{◌≡◌, ℕ, zero, suc, ◌+◌, ◌-◌, ◌<◌, ◌≤◌, Bool, true, false, cond, not, ◌&&◌, ◌||◌, eqb, leb, List, [], ◌∷◌, length, get_or, refl, ap, add-one, arith, length-drop, length-take, get_or-drop, get_or-take, eq-eqb, eqb-true}
use mathlib.Core.Bool.{and-eq-true_iff}
use borrow.Author.Tests.{eqb-false, not-true}
use Rattle.word.specs.Digit.{is_digit}
use Rattle.word.specs.declared.format_flags.Format.{Format}
use Rattle.reader.specs.declared.state.Reader.{Reader}
use Rattle.reader.specs.declared.passing.Syntax.{Syntax}
use Rattle.reader.specs.declared.skip.TakeSums.{TakeSums}
use Rattle.reader.specs.declared.column.Totals.{Totals}
use Rattle.reader.specs.State.{fresh_of, moved_to}
use Rattle.reader.specs.Reading.{Reading}
use Rattle.reader.specs.Code.TakeSums.{sums_outcome}
use Rattle.reader.specs.Calls.{next_all_of, own_count}
use Rattle.reader.specs.Code.Pairs.{pairs_of}
use Rattle.reader.specs.Column.{cell_totals, totals_of, part_from}
use Rattle.reader.specs.Code.OrdinaryCells.{Countable, Ordinary, fills_of, is_quick, passing, doubles, before_digits, digits_of, ordinary_totals}
use Rattle.reader.proofs.passing.Places.{no_separator}
use Rattle.reader.proofs.state.Updates.{given_count}

-- A part of a slice: its length and its bytes.
module _ (s : List ℕ) (start end : ℕ) (ordered : start ≤ end) (inside : end ≤ length s) where
  pub part_length : length (part_from s start end) ≡ end - start
  part_length = simp (length-take, length-drop) (omega arith)

  pub part_byte : (i : ℕ) → i < end - start → get_or (part_from s start end) i 0 ≡ get_or s (start + i) 0
  part_byte i h = rw (get_or-take, get_or-drop)

-- when a cell is ordinary
pub empty_cell : (x : Syntax) (s : List ℕ) → length s ≡ 0 → Ordinary x s
empty_cell x s empty = record { begins = λ h. absurd (omega (arith, empty)); ends = λ h. absurd (omega (arith, empty)) }

pub ordinary_cell : (x : Syntax) (s : List ℕ) → is_digit (get_or s 0 0) x.radix ≡ true → (get_or s (length s - 1) 0 ≡ x.separator → ⊥) → Ordinary x s
ordinary_cell x s digit other = record { begins = λ h. digit; ends = λ h. no_separator x.separator _ other }

-- where no pair of separators is counted, no two stand side by side
none_double :
    (x : Syntax) → is_digit x.separator x.radix ≡ false
    → (l : List ℕ) → pairs_of (doubles x) l ≡ 0
    → (i : ℕ) → i + 1 < length l → get_or l i 0 ≡ x.separator → get_or l (i + 1) 0 ≡ x.separator → ⊥
none_double x apart [] unpaired i h e f = omega arith
none_double x apart (b ∷ []) unpaired i h e f = omega arith
none_double x apart (b ∷ n ∷ l) unpaired zero h e f =
    let digit : is_digit n x.radix ≡ false = rw f apart in
    let counted : 1 + pairs_of (doubles x) (n ∷ l) ≡ 0 = rw (eq-eqb b x.separator e, digit, eq-eqb n x.separator f) at unpaired in
    omega arith
none_double x apart (b ∷ n ∷ l) unpaired (suc i) h e f =
    none_double x apart (n ∷ l) (omega arith) i (omega arith) e (rw add-one (rw add-one at f))

-- the test by which the quick way is taken tells that the buffer is countable: runs are not passed, or it has none
pub quick_told : (x : Syntax) (r : Reader) (s : List ℕ) (filled : Bool) → is_quick x r s filled ≡ true → Countable x r s
unfolding is_quick
quick_told x r s filled q =
    let both = (and-eq-true_iff _ (not x.flags.consecutive || (filled && eqb (pairs_of (doubles x) s) 0))).0 q in
    let by_word = (and-eq-true_iff _ (not (is_digit x.separator x.radix))).0 both.0 in
    let by_reader = (and-eq-true_iff _ (not (eqb x.separator 0))).0 by_word.0 in
    let apart = not-true _ by_word.1 in
    record {
      counts = by_reader.0;
      positive = let unequal = eqb-false x.separator 0 (not-true _ by_reader.1) in omega (arith, unequal);
      apart = apart;
      single = λ runs.
          let found : (filled && eqb (pairs_of (doubles x) s) 0) ≡ true = rw runs at both.1 in
          none_double x apart s (eqb-true (pairs_of (doubles x) s) 0 ((and-eq-true_iff filled _).0 found).1);
    }

-- the last end is the one at the last index, if there is any
pub fills_told : (s ends : List ℕ) → 0 < length ends → leb (length s) (get_or ends (length ends - 1) 0) ≡ fills_of s ends
fills_told s [] filled = absurd (omega arith)
fills_told s (end ∷ []) filled = refl
fills_told s (end ∷ next ∷ ends) filled =
    let down : suc (suc (length ends)) - 1 ≡ suc (suc (length ends) - 1) = omega arith in
    rw down (fills_told s (next ∷ ends) (omega arith))

-- only a digit behind a byte is counted
digit_or_none : (d s : Bool) → cond d true (cond s false false) ≡ d
digit_or_none true s = refl
digit_or_none false true = refl
digit_or_none false false = refl

-- the digits of a list are its first byte, if it is one, and those with a byte before them
behind_digits : (x : Syntax) (b : ℕ) (l : List ℕ) → pairs_of (before_digits x) (b ∷ l) ≡ digits_of x.radix l
behind_digits x b [] = refl
behind_digits x b (n ∷ l) = rw (digit_or_none (is_digit n x.radix) (eqb n x.separator), behind_digits x n l)

first_and_behind :
    (x : Syntax) (s : List ℕ) → 0 < length s
    → cond (is_digit (get_or s 0 0) x.radix) 1 0 + pairs_of (before_digits x) s ≡ digits_of x.radix s
first_and_behind x [] filled = absurd (omega arith)
first_and_behind x (b ∷ l) filled = rw (behind_digits x b l)

-- what a stretch adds: nothing where it is empty, else as it begins with a digit or not
pub empty_stretch : (x : Syntax) (s : List ℕ) (t : Totals) → (t.taken ≡ 0) × ((t.passed ≡ 0) × (t.digits ≡ 0)) → length s ≡ 0 → t ≡ ordinary_totals x s
empty_stretch x [] t none e = rw (none.0, none.1.0, none.1.1)
empty_stretch x (b ∷ s) t none e = absurd (omega arith)

pub stretch_told :
    (x : Syntax) (s : List ℕ) (passed behind digits : ℕ) (first : Bool)
    → passed ≡ pairs_of (passing x) s → behind ≡ pairs_of (before_digits x) s
    → 0 < length s → first ≡ is_digit (get_or s 0 0) x.radix → digits ≡ cond first 1 0 + behind
    → ◌≡◌ {A = Totals} (record { taken = length s - passed; passed = passed; digits = digits }) (ordinary_totals x s)
stretch_told x s passed behind digits first passes counts filled begins total =
    rw (passes, total, counts, begins, first_and_behind x s filled)

-- what a cell adds is what its run tells
pub cell_told :
    (m : Reading) (s : List ℕ) (f : Format) (r : Reader) (run : TakeSums) (digits : ℕ)
    → sums_outcome (fresh_of f) r run ≡ next_all_of m s (fresh_of f) r → digits ≡ own_count r run.count
    → ◌≡◌ {A = Totals} (record { taken = run.at - run.passed; passed = run.passed; digits = digits }) (cell_totals m f r s)
cell_told m s f r run digits takes own =
    let whole : run.at - 0 ≡ run.at = omega arith in
    let known : totals_of r (sums_outcome (fresh_of f) r run) ≡ cell_totals m f r s = ap (totals_of r) takes in
    rw own (rw (whole, given_count (moved_to (fresh_of f) run.at) r run.count) at known)

-- A separator that was refused and taken, with the consecutive flag, by a reader that has counted: the next one of its run is refused
-- too, so that the loop need not ask. Assumes nothing.
use Rattle.std.proofs.Common.{◌≡◌, ℕ, suc, ◌+◌, ◌<◌, Bool, true, false, not, eqb, ltb, List, length, get_or, drop, sym, refl, ap, ◌∙◌, arith, drop-cons, ltb-false, ltb-true, ne_eqb, eqb-true}
use borrow.Author.Tests.{eqb-false, not-true}
use Rattle.std.proofs.lemmas.Bool.{and_parts}
use Rattle.reader.specs.declared.state.Reader.{Reader}
use Rattle.reader.specs.declared.state.State.{State}
use Rattle.reader.specs.declared.passing.Syntax.{Syntax}
use Rattle.reader.specs.Place.{is_separator, separator_run}
use Rattle.reader.specs.Reading.{reading_with, passed_at}
use Rattle.reader.proofs.passing.Passed.{separator_is, passes_none}
use Rattle.reader.proofs.passing.Landings.{stays_on_other, stays_at_end}
use Rattle.reader.proofs.passing.RefusedRuns.{refused-first, refused_next}
use Rattle.cells.specs.Code.Steps.{Takes, still_refused}

module _ (x : Syntax) (s : List ℕ) (at : ℕ) (inside : at < length s) (consecutive : x.flags.consecutive ≡ true) (is_first : Bool)
    (here : get_or s at 0 ≡ x.separator) (refused : passed_at (reading_with x) s is_first at ≡ 0) where
  -- two separators side by side
  refused-behind : suc at < length s → is_separator x.separator (get_or s (suc at) 0) ≡ true → passed_at (reading_with x) s is_first (suc at) ≡ 0
  unfolding reading_with
  refused-behind more two =
      let same : get_or s (suc at) 0 ≡ x.separator = separator_is x.separator (get_or s (suc at) 0) two in
      let one : is_separator x.separator (get_or s at 0) ≡ true = rw here (rw same at two) in
      let run : separator_run x.separator (drop at s) ≡ suc (suc (separator_run x.separator (drop (suc (suc at)) s))) =
      rw (drop-cons s at 0 inside, one, drop-cons s (suc at) 0 more, two) in
      passes_none (reading_with x) s is_first (suc at)
      (refused_next (reading_with x) s consecutive is_first at _ run (refused-first (reading_with x) s consecutive is_first at _ run refused))

  pub run_refused : passed_at (reading_with x) s is_first (suc at) ≡ 0
  run_refused = go (ltb (suc at) (length s)) (is_separator x.separator (get_or s (suc at) 0)) refl refl where
    go : (t u : Bool) → ltb (suc at) (length s) ≡ t → is_separator x.separator (get_or s (suc at) 0) ≡ u → passed_at (reading_with x) s is_first (suc at) ≡ 0
    go false u e f = omega (arith, stays_at_end x s is_first (suc at) (ltb-false (suc at) (length s) e))
    go true false e f = omega (arith, stays_on_other x s is_first (suc at) (ltb-true (suc at) (length s) e) f)
    go true true e f = refused-behind (ltb-true (suc at) (length s) e) f

module _ (x : Syntax) (s : List ℕ) (r : Reader) (st : State) (at count c to behind over : ℕ) (took : Takes (reading_with x) s r st at count c to behind over) where
  pub next_refused : still_refused x c over count ≡ true → passed_at (reading_with x) s (eqb behind 0) to ≡ 0
  next_refused e =
      let tests = and_parts _ (not (eqb count 0)) e in
      let more = and_parts _ (eqb over 0) tests.0 in
      let flags = and_parts x.flags.consecutive (eqb c x.separator) more.0 in
      let none_passed : over ≡ 0 = eqb-true over 0 more.1 in
      let counted : eqb count 0 ≡ false = not-true (eqb count 0) tests.1 in
      let positive = eqb-false count 0 counted in
      let still : eqb behind 0 ≡ false = ne_eqb behind 0 (λ z. positive (omega (arith, z, took.grows.0))) in
      let next : to ≡ suc at = omega (arith, took.moves, none_passed) in
      let start : at + over ≡ at = omega (arith, none_passed) in
      let byte : get_or s at 0 ≡ x.separator = ap (λ (k : ℕ). get_or s k 0) (sym start) ∙ took.byte ∙ eqb-true c x.separator flags.1 in
      let refused : passed_at (reading_with x) s false at ≡ 0 = rw counted at (took.stays none_passed) in
      rw (still, next) (run_refused x s at (omega (arith, took.moves, took.inside)) flags.0 false byte refused)

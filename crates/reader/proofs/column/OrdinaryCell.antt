-- An ordinary cell, taken to its end from a fresh state, adds what its pairs tell: behind its first digit each separator is judged by
-- the byte behind it alone, and no two are passed together. Assumes nothing.
use Rattle.std.proofs.Common.{◌≡◌, ℕ, zero, suc, ◌+◌, ◌-◌, ◌<◌, ◌≤◌, Bool, true, false, cond, ◌&&◌, eqb, ltb, List, length, get_or, drop, Some, None, sym, refl, ap, ◌∙◌, add-one, arith, drop_of_length-le, drop-cons, ltb-false, ltb-true, eq-eqb, ne_eqb, eqb-true}
use borrow.Author.Tests.{eqb-false}
use Rattle.std.proofs.lemmas.Bool.{and_parts}
use Rattle.word.specs.Digit.{is_digit}
use Rattle.word.specs.declared.format_flags.Format.{Format}
use Rattle.reader.specs.declared.state.Reader.{Reader}
use Rattle.reader.specs.declared.state.State.{State}
use Rattle.reader.specs.declared.passing.Syntax.{Syntax}
use Rattle.reader.specs.Rule.{rule_of}
use Rattle.reader.specs.Place.{is_separator, separator_run, nearest, after}
use Rattle.reader.specs.Reading.{reading_with, has_any_flag, neighbour_of, previous, following, passed_at}
use Rattle.reader.specs.State.{fresh_of, is_counted}
use Rattle.reader.specs.Answer.{Outcome}
use Rattle.reader.specs.Calls.{refusal_with, next_all_of}
use Rattle.reader.specs.Code.Pairs.{matches_of, pairs_of}
use Rattle.reader.specs.Column.{totals_of}
use Rattle.reader.specs.Code.OrdinaryCells.{Countable, Ordinary, nothing_before, passing, digits_of, ordinary_totals}
use Rattle.reader.proofs.passing.Places.{is_separator_lem, no_separator}
use Rattle.reader.proofs.passing.Landings.{stays_on_other, stays_behind, passes_behind}
use Rattle.reader.proofs.rule.CommonLaws.{later_looks_behind, single_stops}
use Rattle.reader.proofs.state.Updates.{state_at, counted_tells, fresh_count}
use Rattle.reader.proofs.skip.TakeLoop.{Running, running_starts, running_on, running_out}
use Rattle.reader.proofs.pairs.Counts.{one_pair, no_pair}

-- the digits from a place on
digits_from_lem : (radix : ℕ) (s : List ℕ) (at : ℕ) → at < length s
    → digits_of radix (drop at s) ≡ cond (is_digit (get_or s at 0) radix) 1 0 + digits_of radix (drop (at + 1) s)
digits_from_lem radix s at h = rw (add-one, drop-cons s at 0 h)

-- one digit more
one_more : (d : Bool) (count rest total : ℕ) → total ≡ cond d 1 0 + rest → cond (true && d) (count + 1) count + rest ≡ count + total
one_more true count rest total e = omega arith
one_more false count rest total e = omega arith

positive_on : (d : Bool) (count : ℕ) → 0 < count → 0 < cond (true && d) (count + 1) count
positive_on true count h = omega arith
positive_on false count h = h

module _ (x : Syntax) (r : Reader) (s : List ℕ) (q : Countable x r s) where
  -- a byte that is a digit is no separator
  digit_is_other : (b : ℕ) → is_digit b x.radix ≡ true → b ≡ x.separator → ⊥
  digit_is_other b d e = cc (sym d ∙ ap (λ (n : ℕ). is_digit n x.radix) e ∙ q.apart)

  -- a pair counts exactly where the rule holds of the byte behind the separator
  hit_is_rule : (b n : ℕ) → b ≡ x.separator
      → matches_of (passing x) b n ≡ rule_of x.flags false nothing_before (neighbour_of (reading_with x) (Some n))
  unfolding neighbour_of reading_with is_separator
  hit_is_rule b n e = go (is_digit n x.radix) (eqb n x.separator) refl refl where
    go : (d t : Bool) → is_digit n x.radix ≡ d → eqb n x.separator ≡ t
        → matches_of (passing x) b n ≡ rule_of x.flags false nothing_before (neighbour_of (reading_with x) (Some n))
    go true true p u = absurd (digit_is_other n p (eqb-true n x.separator u))
    go true false p u = rw (eq-eqb b x.separator e, p, u, ne_eqb x.separator 0 (λ z. omega (arith, q.positive)))
    go false true p u = rw (eq-eqb b x.separator e, p, u, ne_eqb x.separator 0 (λ z. omega (arith, q.positive)))
    go false false p u = rw (eq-eqb b x.separator e, p, u, ne_eqb x.separator 0 (λ z. omega (arith, q.positive)))

  no_hit : (b n : ℕ) → (b ≡ x.separator → ⊥) → matches_of (passing x) b n ≡ false
  no_hit b n differ = rw (ne_eqb b x.separator differ)

  -- where a place has another byte than the separator, its pair does not count
  pairs_past : (at : ℕ) → at < length s → (get_or s at 0 ≡ x.separator → ⊥) → pairs_of (passing x) (drop at s) ≡ pairs_of (passing x) (drop (at + 1) s)
  pairs_past at h differ = go (ltb (suc at) (length s)) refl where
    go : (t : Bool) → ltb (suc at) (length s) ≡ t → pairs_of (passing x) (drop at s) ≡ pairs_of (passing x) (drop (at + 1) s)
    go true t =
        let e = one_pair (passing x) s at (ltb-true (suc at) (length s) t) in
        let n = no_hit (get_or s at 0) (get_or s (suc at) 0) differ in
        rw add-one (omega (arith, rw n at e))
    go false t =
        let out = ltb-false (suc at) (length s) t in
        rw (add-one, no_pair (passing x) s at out, no_pair (passing x) s (suc at) (omega arith))

  module _ (at : ℕ) (inside : at + 1 < length s) (equal : get_or s at 0 ≡ x.separator) where
    -- with the consecutive flag no separator follows another
    other_next : x.flags.consecutive ≡ true → is_separator x.separator (get_or s (at + 1) 0) ≡ false
    other_next c = no_separator x.separator (get_or s (at + 1) 0) (q.single c at inside equal)

    next_byte : following (reading_with x) s at ≡ neighbour_of (reading_with x) (Some (get_or s (at + 1) 0))
    unfolding reading_with
    next_byte =
        ap (neighbour_of (reading_with x)) (go x.flags.consecutive refl) where
          go : (c : Bool) → x.flags.consecutive ≡ c → nearest x.separator x.flags.consecutive (after s at) ≡ Some (get_or s (at + 1) 0)
          go true c = rw (c, ← add-one at, drop-cons s (at + 1) 0 inside, other_next c)
          go false c = rw (c, ← add-one at, drop-cons s (at + 1) 0 inside)

    rule_told : rule_of x.flags false (previous (reading_with x) s at) (following (reading_with x) s at)
        ≡ matches_of (passing x) (get_or s at 0) (get_or s (at + 1) 0)
    rule_told =
        ap (rule_of x.flags false (previous (reading_with x) s at)) next_byte
        ∙ sym (later_looks_behind x.flags (previous (reading_with x) s at) (neighbour_of (reading_with x) (Some (get_or s (at + 1) 0))))
        ∙ sym (hit_is_rule (get_or s at 0) (get_or s (at + 1) 0) equal)

    -- a pair that counts has no separator for its second byte, so one separator is passed
    hit_ends : matches_of (passing x) (get_or s at 0) (get_or s (at + 1) 0) ≡ true → get_or s (at + 1) 0 ≡ x.separator → ⊥
    hit_ends t e = go x.flags.consecutive refl where
      go : (c : Bool) → x.flags.consecutive ≡ c → ⊥
      go true c = q.single c at inside equal e
      go false c =
          let stops : matches_of (passing x) (get_or s at 0) x.separator ≡ false = rw (eq-eqb (get_or s at 0) x.separator equal, q.apart, eq-eqb x.separator x.separator refl) (single_stops x.flags nothing_before c) in
          cc (sym t ∙ ap (matches_of (passing x) (get_or s at 0)) e ∙ stops)

    run_of_one : is_separator x.separator (get_or s (at + 1) 0) ≡ false
        → at + 1 ≡ at + cond x.flags.consecutive (separator_run x.separator (drop at s)) 1
    run_of_one other = go x.flags.consecutive where
      go : (c : Bool) → at + 1 ≡ at + cond c (separator_run x.separator (drop at s)) 1
      go true =
          let behind : is_separator x.separator (get_or s (suc at) 0) ≡ false = rw add-one at other in
          rw (drop-cons s at 0 (omega arith), is_separator_lem x.separator (get_or s at 0) q.positive equal, drop-cons s (suc at) 0 (omega arith), behind)
      go false = refl

    lands_behind : (is_first : Bool) → is_first ≡ false → matches_of (passing x) (get_or s at 0) (get_or s (at + 1) 0) ≡ true
        → at + 1 ≡ at + passed_at (reading_with x) s is_first at
    lands_behind is_first later t =
        rw later
        (passes_behind x s false at (omega arith) q.positive equal _ (sym rule_told) (at + 1) t
        (run_of_one (no_separator x.separator (get_or s (at + 1) 0) (hit_ends t))))

    stays_here : (is_first : Bool) → is_first ≡ false → matches_of (passing x) (get_or s at 0) (get_or s (at + 1) 0) ≡ false
        → at ≡ at + passed_at (reading_with x) s is_first at
    stays_here is_first later t = rw later (stays_behind x s false at (omega arith) q.positive equal _ (sym rule_told) t)

  module _ (f : Format) (o : Ordinary x s) (clear : refusal_with (reading_with x).flags s (fresh_of f) r ≡ 0) where
    abbrev st : State
    st = fresh_of f

    -- the end of the cell, with P separators passed and D digits counted
    abbrev finish : ℕ → ℕ → Outcome
    finish P D = record { refusal = 0; byte = None; taken = length s - P; passed = P; state = state_at st r (length s) D }

    told_so : (P P' D D' : ℕ) → P ≡ P' → D ≡ D' → next_all_of (reading_with x) s st r ≡ finish P D → next_all_of (reading_with x) s st r ≡ finish P' D'
    told_so P P' D D' p d e = rw (p, d) at e

    at_end : (at count passed : ℕ) → length s ≤ at → Running (reading_with x) s r st at count passed
        → next_all_of (reading_with x) s st r ≡ finish (passed + pairs_of (passing x) (drop at s)) (count + digits_of x.radix (drop at s))
    unfolding next_all_of
    at_end at count passed out here =
        let e : at ≡ length s = omega (arith, here.stands.inside) in
        let P : passed ≡ passed + pairs_of (passing x) (drop at s) = rw (drop_of_length-le s out) (omega arith) in
        let D : count ≡ count + digits_of x.radix (drop at s) = rw (drop_of_length-le s out) (omega arith) in
        let over = running_out (reading_with x) s r st clear at count passed here out in
        let none_before : length s - 0 - passed ≡ length s - passed = omega arith in
        told_so passed _ count _ P D (sym (rw none_before at (rw e at over)))

    -- From a place behind the first digit on, what is passed is what counts of the pairs from there.
    abbrev Tells : ℕ → ℕ → ℕ → Type 0
    Tells at count passed =
        next_all_of (reading_with x) s st r ≡ finish (passed + pairs_of (passing x) (drop at s)) (count + digits_of x.radix (drop at s))

    module _ (n at count passed : ℕ) (few : length s ≤ at + suc n) (above : 0 < count) (here : Running (reading_with x) s r st at count passed)
        (onward : (at' count' passed' : ℕ) → length s ≤ at' + n → 0 < count' → Running (reading_with x) s r st at' count' passed' → Tells at' count' passed')
      where
        -- the byte here is taken, and its pair does not count
        takes_here : at < length s → at ≡ at + passed_at (reading_with x) s (eqb count 0) at
            → pairs_of (passing x) (drop at s) ≡ pairs_of (passing x) (drop (at + 1) s) → Tells at count passed
        unfolding reading_with
        takes_here h stays same =
            let d = is_digit (get_or s at 0) x.radix in
            let on = rw q.counts at (running_on (reading_with x) s r st clear at count passed here at stays h) in
            told_so (passed + (at - at) + pairs_of (passing x) (drop (at + 1) s)) _ (cond (true && d) (count + 1) count + digits_of x.radix (drop (at + 1) s)) _
            (omega arith)
            (one_more d count (digits_of x.radix (drop (at + 1) s)) (digits_of x.radix (drop at s)) (digits_from_lem x.radix s at h))
            (onward (at + 1) (cond (true && d) (count + 1) count) (passed + (at - at)) (omega arith) (positive_on d count above) on)

        -- the separator here is passed, and the byte behind it taken
        takes_next : (inside : at + 1 < length s) (equal : get_or s at 0 ≡ x.separator)
            → matches_of (passing x) (get_or s at 0) (get_or s (at + 1) 0) ≡ true → Tells at count passed
        unfolding reading_with
        takes_next inside equal t =
            let d = is_digit (get_or s (at + 1) 0) x.radix in
            let lands = lands_behind at inside equal (eqb count 0) (ne_eqb count 0 (λ z. omega arith)) t in
            let on = rw q.counts at (running_on (reading_with x) s r st clear at count passed here (at + 1) lands inside) in
            let one : pairs_of (passing x) (drop at s) ≡ 1 + pairs_of (passing x) (drop (at + 1) s) = rw (add-one, one_pair (passing x) s at (omega arith), rw add-one at t) in
            let rest = pairs_past (at + 1) inside (hit_ends at inside equal t) in
            let no_digit : digits_of x.radix (drop at s) ≡ 0 + digits_of x.radix (drop (at + 1) s) = digits_from_lem x.radix s at (omega arith) ∙ rw (equal, q.apart) in
            told_so (passed + (at + 1 - at) + pairs_of (passing x) (drop (at + 1 + 1) s)) _ (cond (true && d) (count + 1) count + digits_of x.radix (drop (at + 1 + 1) s)) _
            (omega arith)
            (one_more d count (digits_of x.radix (drop (at + 1 + 1) s)) (digits_of x.radix (drop (at + 1) s)) (digits_from_lem x.radix s (at + 1) inside) ∙ omega arith)
            (onward (at + 1 + 1) (cond (true && d) (count + 1) count) (passed + (at + 1 - at)) (omega arith) (positive_on d count above) on)

        -- the last byte is no separator
        not_last : at < length s → get_or s at 0 ≡ x.separator → at + 1 < length s
        not_last h e = go (ltb (at + 1) (length s)) refl where
          go : (t : Bool) → ltb (at + 1) (length s) ≡ t → at + 1 < length s
          go true t = ltb-true (at + 1) (length s) t
          go false t =
              let out = ltb-false (at + 1) (length s) t in
              let last : length s - 1 ≡ at = omega arith in
              let other = rw last at (o.ends (omega arith)) in
              absurd (cc (sym other ∙ is_separator_lem x.separator (get_or s at 0) q.positive e))

        takes_one : at < length s → Tells at count passed
        takes_one h = go (eqb (get_or s at 0) x.separator) refl where
          go : (t : Bool) → eqb (get_or s at 0) x.separator ≡ t → Tells at count passed
          go false t =
              let differ = eqb-false (get_or s at 0) x.separator t in
              takes_here h (stays_on_other x s (eqb count 0) at h (no_separator x.separator (get_or s at 0) differ)) (pairs_past at h differ)
          go true t =
              let equal = eqb-true (get_or s at 0) x.separator t in
              let inside = not_last h equal in
              judged inside equal (matches_of (passing x) (get_or s at 0) (get_or s (at + 1) 0)) refl where
                judged : (inside : at + 1 < length s) (equal : get_or s at 0 ≡ x.separator) (u : Bool) → matches_of (passing x) (get_or s at 0) (get_or s (at + 1) 0) ≡ u → Tells at count passed
                judged inside equal true u = takes_next inside equal u
                judged inside equal false u =
                    let None : pairs_of (passing x) (drop at s) ≡ pairs_of (passing x) (drop (at + 1) s) = rw (add-one, one_pair (passing x) s at (omega arith), rw add-one at u) (omega arith) in
                    takes_here h (stays_here at inside equal (eqb count 0) (ne_eqb count 0 (λ z. omega arith)) u) None

    told_from : (n at count passed : ℕ) → length s ≤ at + n → 0 < count → Running (reading_with x) s r st at count passed → Tells at count passed
    told_from zero at count passed few above here = at_end at count passed (omega arith) here
    told_from (suc n) at count passed few above here = go (ltb at (length s)) refl (told_from n) where
      go : (t : Bool) → ltb at (length s) ≡ t
          → ((at' count' passed' : ℕ) → length s ≤ at' + n → 0 < count' → Running (reading_with x) s r st at' count' passed' → Tells at' count' passed')
          → Tells at count passed
      go true t onward = takes_one n at count passed few above here onward (ltb-true at (length s) t)
      go false t onward = at_end at count passed (ltb-false at (length s) t) here

    told_whole : next_all_of (reading_with x) s st r ≡ finish (pairs_of (passing x) s) (digits_of x.radix s)
    unfolding reading_with
    told_whole = go (ltb 0 (length s)) refl where
      begun : Running (reading_with x) s r st 0 0 0
      begun = rw (sym (fresh_count f r)) at (running_starts (reading_with x) s r st clear)

      go : (t : Bool) → ltb 0 (length s) ≡ t → next_all_of (reading_with x) s st r ≡ finish (pairs_of (passing x) s) (digits_of x.radix s)
      go false t = told_so _ _ _ _ (omega arith) (omega arith) (at_end 0 0 0 (ltb-false 0 (length s) t) begun)
      go true t =
          let h = ltb-true 0 (length s) t in
          let digit = o.begins h in
          let differ = digit_is_other (get_or s 0 0) digit in
          let stays = stays_on_other x s (eqb 0 0) 0 h (no_separator x.separator (get_or s 0 0) differ) in
          let on = rw (q.counts, digit) at (running_on (reading_with x) s r st clear 0 0 0 begun 0 stays h) in
          let past = pairs_past 0 h differ in
          let first : digits_of x.radix s ≡ 1 + digits_of x.radix (drop 1 s) = digits_from_lem x.radix s 0 h ∙ rw digit in
          told_so _ _ _ _ (omega arith) (omega arith) (told_from (length s) 1 1 0 (omega arith) (omega arith) on)

    pub ordinary_told : totals_of r (next_all_of (reading_with x) s st r) ≡ ordinary_totals x s
    ordinary_told = rw (told_whole, counted_tells st r (length s) (digits_of x.radix s) (and_parts (has_any_flag x.flags) (is_counted r) q.counts).1)

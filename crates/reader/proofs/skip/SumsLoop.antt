-- The loop of `take_run` by its definition, on plain numbers: a turn, the end, and what holds at each turn: for the proof of
-- `take_run`. Assumes nothing.
use Rattle.std.proofs.Common.{◌≡◌, ℕ, zero, suc, ◌+◌, ◌-◌, ◌<◌, ◌≤◌, Bool, true, false, cond, ◌&&◌, eqb, List, length, get_or, sym, refl, ◌∙◌, arith}
use Rattle.reader.specs.declared.skip.TakeSums.{TakeSums}
use Rattle.reader.specs.Reading.{Reading, may_pass, passed_at}
use Rattle.reader.specs.Code.TakeSums.{count_behind, lands_at, sums_from, take_sums_from}
use Rattle.reader.proofs.passing.Places.{byte_here, no_byte}

-- nothing is passed at the end
pub end_passes_none : (m : Reading) (s : List ℕ) (is_first : Bool) (place : ℕ) → length s ≤ place → passed_at m s is_first place ≡ 0
unfolding passed_at may_pass
end_passes_none m s is_first place out = rw (no_byte s place out)

-- a turn takes one byte more, of those that are left
taken_on : (start at passed place : ℕ) → start + passed ≤ at → at ≤ place → (place + 1) - start - (passed + (place - at)) ≡ at - start - passed + 1
taken_on start at passed place started onward = omega arith

turn_started : (start at passed place : ℕ) → start + passed ≤ at → at ≤ place → start + (passed + (place - at)) ≤ place + 1
turn_started start at passed place started onward = omega arith

one_less : (size taken : ℕ) → taken < size → size - taken ≡ suc (size - (taken + 1))
one_less size taken h = omega arith

module _ (m : Reading) (s : List ℕ) (counts : Bool) where
  -- a turn that finds a byte, and one that finds the end
  pub sums_on : (n at count passed : ℕ) → lands_at m s at count < length s
      → sums_from m s counts (suc n) at count passed
      ≡ sums_from m s counts n (lands_at m s at count + 1) (count_behind m counts (get_or s (lands_at m s at count) 0) count) (passed + (lands_at m s at count - at))
  unfolding sums_from
  sums_on n at count passed h = rw (byte_here s (lands_at m s at count) h)

  pub sums_end : (n at count passed : ℕ) → length s ≤ lands_at m s at count
      → sums_from m s counts n at count passed ≡ record { at = lands_at m s at count; count = count; passed = passed + (lands_at m s at count - at) }
  unfolding sums_from
  sums_end zero at count passed out = refl
  sums_end (suc n) at count passed out = rw (no_byte s (lands_at m s at count) out)

  pub count_behind_fits : (b count : ℕ) → count_behind m counts b count ≤ count + 1
  count_behind_fits b count = go (counts && m.digit b) where
    go : (t : Bool) → cond t (count + 1) count ≤ count + 1
    go true = omega arith
    go false = omega arith

  -- The loop stands at a place with a count, and has passed so many: from there its definition goes on to the same sums.
  pub record Summing (start counted at count passed : ℕ) : Type 0 where
    pub same : sums_from m s counts (length s - (at - start - passed)) at count passed ≡ take_sums_from m s counts start counted
    pub inside : at ≤ length s
    pub few : count ≤ at
    pub started : start + passed ≤ at

  pub summing_starts : (start counted : ℕ) → start ≤ length s → counted ≤ start → Summing start counted start counted 0
  unfolding take_sums_from
  summing_starts start counted within below =
      let none_yet : length s - (start - start - 0) ≡ length s = omega arith in
      record { same = rw none_yet; inside = within; few = below; started = omega arith }

  module _ (start counted at count passed : ℕ) (here : Summing start counted at count passed) where
    module _ (place : ℕ) (lands : place ≡ lands_at m s at count) where
      pub summing_on : place < length s → Summing start counted (place + 1) (count_behind m counts (get_or s place 0) count) (passed + (place - at))
      summing_on h =
          let on = taken_on start at passed place here.started (omega arith) in
          let steps : length s - (at - start - passed) ≡ suc (length s - ((place + 1) - start - (passed + (place - at)))) =
          rw on (one_less (length s) (at - start - passed) (omega arith)) in
          record {
            same =
                rw lands
                (sym (sums_on (length s - ((lands_at m s at count + 1) - start - (passed + (lands_at m s at count - at)))) at count passed (rw lands at h))
                ∙ rw (sym (rw lands at steps)) here.same);
            inside = omega arith;
            few = omega (arith, here.few, count_behind_fits (get_or s place 0) count, lands);
            started = turn_started start at passed place here.started (omega arith);
          }

      -- where the end is found the loop is over
      pub summing_over : length s ≤ place → ◌≡◌ {A = TakeSums} (record { at = place; count = count; passed = passed + (place - at) }) (take_sums_from m s counts start counted)
      summing_over out = rw lands (sym (sums_end (length s - (at - start - passed)) at count passed (rw lands at out)) ∙ here.same)

    -- so it is where it comes to the end: there nothing is passed
    pub summing_out : length s ≤ at → ◌≡◌ {A = TakeSums} (record { at = at; count = count; passed = passed }) (take_sums_from m s counts start counted)
    summing_out out =
        let stays : at ≡ lands_at m s at count = rw (end_passes_none m s (eqb count 0) at out) (omega arith) in
        let none_passed : passed + (at - at) ≡ passed = omega arith in
        rw none_passed at (summing_over at stays out)

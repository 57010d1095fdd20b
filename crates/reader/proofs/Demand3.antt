-- DEMAND 3, for every sheet whose word the full check accepts. Nothing else is assumed.
use Rattle.std.proofs.Common.{◌≡◌, ℕ, ◌<◌, Bool, true, false, not, ◌&&◌, List, Some, sym, refl, arith}
use Rattle.word.specs.Word.{flag, digit_separator, mantissa_radix}
use Rattle.word.specs.Check.{consecutive_alone, full_check}
use Rattle.word.proofs.feature_format.Accepted.{separator_no_digit, none_alone}
use Rattle.reader.specs.declared.state.Reader.{Reader}
use Rattle.reader.specs.declared.state.Reader.TheVariants.{Integer, Fraction, Exponent, Special}
use Rattle.reader.specs.State.{Sheet}
use Rattle.reader.specs.Place.{is_separator}
use Rattle.reader.specs.Reading.{flags_of, syntax_of, syntax_on, reading_with, reading_on, neighbour_of}
use Rattle.reader.specs.Calls.{line_consecutive}
use Rattle.reader.specs.History.{Call}
use Rattle.reader.specs.ByteTally.{NeverRefusedBy, trace_fresh, ByteTally}
use Rattle.reader.proofs.rule.CommonLaws.{a_separator, settles}
use Rattle.reader.proofs.passing.Passed.{separator_is}
use Rattle.reader.proofs.ByteTally.Settling.{Settles}
use Rattle.reader.proofs.ByteTally.AnyReading.{byte_tally}
use Rattle.reader.proofs.ByteTally.Refusals.{never_refused_by}

module _ (sheet : Sheet) (accepted : full_check sheet.format ≡ 0) where
  -- a separator that stands beside another is no digit
  a_separator_lem : (r : Reader) (b : ℕ) → is_separator (reading_on sheet r).separator b ≡ true → neighbour_of (reading_on sheet r) (Some b) ≡ a_separator
  unfolding neighbour_of reading_with syntax_on syntax_of
  a_separator_lem r b e =
      let no_digit : (reading_on sheet r).digit b ≡ false = rw (separator_is (digit_separator sheet.format) b e) (separator_no_digit sheet.format accepted (mantissa_radix sheet.format) (omega arith)) in
      rw (no_digit, e)

  settles_accepted : (r : Reader) → Settles (reading_on sheet r)
  unfolding reading_with
  settles_accepted r =
      record {
        once = λ is_first b x p n alone hb hx front.
            rw (a_separator_lem r b hb) (settles (reading_on sheet r).flags is_first p n alone (rw (a_separator_lem r x hx) at front));
      }

  -- DEMAND 3
  pub demand_3 : (s : List ℕ) (calls : List Call) → ByteTally reading_on s sheet calls
  demand_3 s calls = byte_tally reading_on s sheet settles_accepted calls

  -- no reader's consecutive flag stands alone, so lines 12 to 14 hold
  line_special : (b : Bool) → (b && not b && not b && not b) ≡ false
  line_special true = refl
  line_special false = refl

  pub consecutive_holds : (r : Reader) → line_consecutive (reading_on sheet r).flags r ≡ 0
  unfolding reading_with syntax_on syntax_of flags_of consecutive_alone
  consecutive_holds Integer = rw (none_alone sheet.format accepted).0
  consecutive_holds Fraction = rw (none_alone sheet.format accepted).1
  consecutive_holds Exponent = rw (none_alone sheet.format accepted).2
  consecutive_holds Special = rw (line_special (flag sheet.format 44))

  -- On such a list 18 is the only refusal.
  pub only_18 : (s : List ℕ) (calls : List Call) (number : ℕ) → 0 < number → (number ≡ 18 → ⊥)
      → NeverRefusedBy number (trace_fresh reading_on s sheet calls).history
  only_18 s calls number Some-number other =
      never_refused_by reading_on s sheet consecutive_holds number (λ e. omega arith) (λ e. other (sym e)) calls

  -- Cursor past the end, and counts above the cursor, never arise.
  pub never_16_nor_17 : (s : List ℕ) (calls : List Call)
      → NeverRefusedBy 16 (trace_fresh reading_on s sheet calls).history × NeverRefusedBy 17 (trace_fresh reading_on s sheet calls).history
  never_16_nor_17 s calls = (only_18 s calls 16 (omega arith) (λ e. omega arith), only_18 s calls 17 (omega arith) (λ e. omega arith))

-- An answer is packed as its outcome, for each kind of answer: for `answer_to`; and the bytes of a part one by one, for `pack_part`.
-- Assumes nothing.
use Prim.Native.Nat.{ℕ, ◌+◌, ◌≤◌, ◌<◌}
use mathlib.Core.Path.{◌≡◌, refl}
use mathlib.Core.List.{List}
use native.Mathlib.Numerals.{add-one}
use lib.ListN.{length, drop, get_or, drop_of_length-le}
use lib.Seq.{drop-cons}
use Rattle.reader.specs.declared.state.Refusal.{Refusal}
use Rattle.reader.specs.declared.state.Refusal.TheVariants.{CursorPastEnd, CountsExceedCursor, SpecialReader, ConsecutiveInteger, ConsecutiveFraction, ConsecutiveExponent}
use Rattle.std.specs.Prelude.{Option, Result, Ok, Err}
use Rattle.reader.specs.declared.answer.Answer.{Answer}
use Rattle.reader.specs.declared.answer.Read.{Read}
use Rattle.reader.specs.declared.answer.Read.TheVariants as read
use Rattle.reader.specs.Answer.{number_of, refusal_in, answer_in, found_in, read_byte, read_seen, outcome_of, read_outcome_of, skip_outcome_of, block_outcome_of}
use Rattle.cells.specs.declared.digit_run.RunError.{RunError}
use Rattle.cells.specs.declared.digit_run.RunError.TheVariants.{NoDigit, AboveWidth, Refused}
use Rattle.cells.specs.DigitRun.{error_number, run_number, run_value, run_outcome_of}
use Rattle.vectors.specs.Packed.{with_byte, low_byte_behind}
use Rattle.vectors.specs.Call.{value_or_none, read_or_none, block_or_none, or_refused, read_first, value_first, first_in, with_state, packed_as, packed_outcome, packed_read, packed_skip, packed_block, packed_run, bytes_behind}

refused_first : (e : Refusal) (first : ℕ) → low_byte_behind 2 (number_of e) ≡ or_refused (number_of e) first
refused_first CursorPastEnd first = refl
refused_first CountsExceedCursor first = refl
refused_first SpecialReader first = refl
refused_first ConsecutiveInteger first = refl
refused_first ConsecutiveFraction first = refl
refused_first ConsecutiveExponent first = refl

refused_run_first : (e : RunError) (first : ℕ) → low_byte_behind 2 (error_number e) ≡ or_refused (error_number e) first
refused_run_first NoDigit first = refl
refused_run_first AboveWidth first = refl
refused_run_first (Refused e) first = refused_first e first

-- where `told` begins the same of a call that is not refused
module _ {A : Type 0} (first : A → ℕ) (told : Result A Refusal → ℕ) (same : (found : A) → first found ≡ told (Ok found)) where
  begins_as : (found : Result A Refusal) → first_in first number_of found ≡ or_refused (refusal_in found) (told found)
  begins_as (Ok found) = same found
  begins_as (Err e) = refused_first e (told (Err e))

  packed_by : (a : Answer (Result A Refusal)) → packed_as first number_of a
      ≡ with_state (or_refused (refusal_in a.report.found) (told a.report.found)) a.state a.report.taken a.report.passed
  packed_by a = rw (begins_as a.report.found)

pub seen_packed : (a : Answer (Result (Option ℕ) Refusal)) → packed_as value_or_none number_of a ≡ packed_outcome (outcome_of a)
seen_packed = packed_by value_or_none (λ found. value_or_none (found_in found)) (λ found. refl)

pub read_packed : (a : Answer (Result Read Refusal)) → packed_as read_first number_of a ≡ packed_read (read_outcome_of a)
read_packed = packed_by read_first (λ found. read_or_none (read_byte found) (read_seen found)) same where
  same : (did : Read) → read_first did ≡ read_or_none (read_byte (Ok did)) (read_seen (Ok did))
  same (read.Taken b) = refl
  same (read.Declined b) = refl
  same read.End = refl

pub zeros_packed : (a : Answer (Result ℕ Refusal)) → packed_as value_first number_of a ≡ packed_skip (skip_outcome_of a)
zeros_packed = packed_by value_first (λ found. value_or_none (answer_in found)) (λ found. refl)

pub block_packed : (a : Answer (Result (Option ℕ) Refusal)) → packed_as block_or_none number_of a ≡ packed_block (block_outcome_of a)
block_packed = packed_by block_or_none (λ found. block_or_none (found_in found)) (λ found. refl)

pub run_packed : (a : Answer (Result ℕ RunError)) → packed_as value_first error_number a ≡ packed_run (run_outcome_of a)
run_packed a = rw (begins a.report.found) where
  begins : (found : Result ℕ RunError) → first_in value_first error_number found ≡ or_refused (run_number found) (value_or_none (run_value found))
  begins (Ok v) = refl
  begins (Err e) = refused_run_first e 0

module _ (part : List ℕ) (packed i : ℕ) where
  pub one_behind : (next : ℕ) → i < length part → next ≡ with_byte packed (get_or part i 0)
      → bytes_behind packed (drop i part) ≡ bytes_behind next (drop (i + 1) part)
  unfolding bytes_behind
  one_behind next inside is = rw (add-one, drop-cons part i 0 inside, is)

  pub all_behind_lem : length part ≤ i → bytes_behind packed (drop i part) ≡ packed
  unfolding bytes_behind
  all_behind_lem end = rw (drop_of_length-le part end)

-- Takes to the end on plain numbers (src/skip.rt, `take_run`), and the outcome that they stand for. That it is the outcome of the
-- takes is shown in proofs/skip/TakeLoop.antt. Assumes nothing.
use Rattle.std.specs.Prelude.{ℕ, zero, suc, ◌+◌, ◌-◌, Bool, cond, ◌&&◌, List, length, ◌==◌, Option, Some, None}
use Rattle.reader.specs.declared.state.Reader.{Reader}
use Rattle.reader.specs.declared.state.Reader.TheVariants.{Integer, Fraction, Exponent, Special}
use Rattle.reader.specs.declared.state.State.{State}
use Rattle.reader.specs.declared.rule.Flags.{Flags}
use Rattle.reader.specs.declared.skip.TakeSums.{TakeSums}
use Rattle.reader.specs.Place.{byte_at}
use Rattle.reader.specs.Reading.{Reading, has_any_flag, passed_at}
use Rattle.reader.specs.State.{is_counted, moved_to}
use Rattle.reader.specs.Answer.{Outcome}

-- the same state with n for the reader's own count
unfoldable pub with_count : State → Reader → ℕ → State
with_count st Integer n =
    record { format = st.format; cursor = st.cursor; integer = record { 0 = n }; fraction = st.fraction; exponent = st.exponent }
with_count st Fraction n =
    record { format = st.format; cursor = st.cursor; integer = st.integer; fraction = record { 0 = n }; exponent = st.exponent }
with_count st Exponent n =
    record { format = st.format; cursor = st.cursor; integer = st.integer; fraction = st.fraction; exponent = record { 0 = n } }
with_count st Special n = st

-- what they stand for, from a state: the end, with the state at the last place and count
abbrev pub sums_outcome : State → Reader → TakeSums → Outcome
sums_outcome st r run =
    record {
      refusal = 0;
      byte = None;
      taken = run.at - st.cursor - run.passed;
      passed = run.passed;
      state = with_count (moved_to st run.at) r run.count;
    }

-- whether a reader counts the digits that it takes
abbrev pub counts_digits : Flags → Reader → Bool
counts_digits f r = has_any_flag f && is_counted r

-- the count behind a byte that is taken
abbrev pub count_behind : Reading → Bool → ℕ → ℕ → ℕ
count_behind m counts b count = cond (counts && m.digit b) (count + 1) count

-- what a byte leads to, or the end
abbrev pub from_byte : Option ℕ → (ℕ → TakeSums) → TakeSums → TakeSums
from_byte None onward end = end
from_byte (Some b) onward end = onward b

-- where a reader with this count lands at a place
abbrev pub lands_at : Reading → List ℕ → ℕ → ℕ → ℕ
lands_at m s at count = at + passed_at m s (count == 0) at

-- Take after take from a place, until there is no byte. No more of them take a byte than the buffer has.
unfoldable pub sums_from : Reading → List ℕ → Bool → (n at count passed : ℕ) → TakeSums
sums_from m s counts zero at count passed = record { at = lands_at m s at count; count = count; passed = passed + (lands_at m s at count - at) }
sums_from m s counts (suc n) at count passed =
    from_byte (byte_at s (lands_at m s at count))
    (λ b. sums_from m s counts n (lands_at m s at count + 1) (count_behind m counts b count) (passed + (lands_at m s at count - at)))
    (record { at = lands_at m s at count; count = count; passed = passed + (lands_at m s at count - at) })

unfoldable pub take_sums_from : Reading → List ℕ → Bool → ℕ → ℕ → TakeSums
take_sums_from m s counts start counted = sums_from m s counts (length s) start counted 0

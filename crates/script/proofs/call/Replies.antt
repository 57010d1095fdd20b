-- An answer's reply is that of its outcome, for each kind of answer: for `reply_to`. Assumes nothing.
use mathlib.Core.Path.{◌≡◌, refl}
use Prim.Native.Nat.{ℕ}
use Rattle.std.specs.Prelude.{Option, Result, Ok, Err}
use Rattle.reader.specs.declared.state.Refusal.{Refusal}
use Rattle.reader.specs.declared.state.Refusal.TheVariants.{CursorPastEnd, CountsExceedCursor, SpecialReader, ConsecutiveInteger, ConsecutiveFraction, ConsecutiveExponent}
use Rattle.reader.specs.declared.answer.Answer.{Answer}
use Rattle.reader.specs.declared.answer.Read.{Read}
use Rattle.reader.specs.declared.answer.Read.TheVariants as read
use Rattle.reader.specs.Answer.{number_of, refusal_in, answer_in, found_in, read_byte, outcome_of, read_outcome_of, skip_outcome_of, block_outcome_of}
use Rattle.script.specs.declared.call.Shown.{Shown}
use Rattle.script.specs.declared.call.Shown.TheVariants as shown
use Rattle.script.specs.Reply.{number_shown, block_shown, read_shown, zeros_shown, or_refused, shown_in, replied_as, outcome_reply, skip_reply, block_reply}

refused_shown : (e : Refusal) (answer : Shown) → shown.Refused (number_of e) ≡ or_refused (number_of e) answer
refused_shown CursorPastEnd answer = refl
refused_shown CountsExceedCursor answer = refl
refused_shown SpecialReader answer = refl
refused_shown ConsecutiveInteger answer = refl
refused_shown ConsecutiveFraction answer = refl
refused_shown ConsecutiveExponent answer = refl

-- where `told` shows the same of a call that is not refused
module _ {A : Type 0} (shows : A → Shown) (told : Result A Refusal → Shown) (same : (found : A) → shows found ≡ told (Ok found)) where
  shown_as : (found : Result A Refusal) → shown_in shows found ≡ or_refused (refusal_in found) (told found)
  shown_as (Ok found) = same found
  shown_as (Err e) = refused_shown e (told (Err e))

  reply_as : (a : Answer (Result A Refusal)) → replied_as shows a
      ≡ record { shown = or_refused (refusal_in a.report.found) (told a.report.found); taken = a.report.taken; passed = a.report.passed; state = a.state }
  reply_as a = rw (shown_as a.report.found)

pub seen_reply : (a : Answer (Result (Option ℕ) Refusal)) → replied_as number_shown a ≡ outcome_reply (outcome_of a)
unfolding outcome_reply
seen_reply = reply_as number_shown (λ found. number_shown (found_in found)) (λ found. refl)

pub read_reply : (a : Answer (Result Read Refusal)) → replied_as read_shown a ≡ outcome_reply (read_outcome_of a).outcome
unfolding outcome_reply
read_reply = reply_as read_shown (λ found. number_shown (read_byte found)) same where
  same : (did : Read) → read_shown did ≡ number_shown (read_byte (Ok did))
  same (read.Taken b) = refl
  same (read.Declined b) = refl
  same read.End = refl

pub zeros_reply : (a : Answer (Result ℕ Refusal)) → replied_as zeros_shown a ≡ skip_reply (skip_outcome_of a)
unfolding skip_reply
zeros_reply = reply_as zeros_shown (λ found. number_shown (answer_in found)) (λ found. refl)

pub taken_reply : (a : Answer (Result (Option ℕ) Refusal)) → replied_as block_shown a ≡ block_reply (block_outcome_of a)
unfolding block_reply
taken_reply = reply_as block_shown (λ found. block_shown (found_in found)) (λ found. refl)

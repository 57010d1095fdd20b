-- What is written of a reply is what the call's definition says: for every call that goes by a reply. Assumes nothing.
use Rattle.std.specs.Prelude.{ℕ, List, Option, Some, None, Result, Ok, Err, ok_or, slice_index}
use Rattle.std.proofs.Common.{◌≡◌, ◌∙◌, refl, ap}
use Rattle.reader.specs.declared.state.State.{State}
use Rattle.reader.specs.declared.state.Reader.{Reader}
use Rattle.reader.specs.declared.state.UnknownReader.{UnknownReader}
use Rattle.reader.specs.declared.state.Refusal.{Refusal}
use Rattle.reader.specs.declared.answer.Answer.{Answer}
use Rattle.reader.specs.declared.answer.Read.{Read}
use Rattle.reader.specs.declared.answer.Read.TheVariants as read
use Rattle.reader.specs.Answer.{number_of, refusal_in, found_in, answer_in, read_byte, read_seen, outcome_of, read_outcome_of, skip_outcome_of, block_outcome_of}
use Rattle.cells.specs.declared.digit_run.RunError.{RunError}
use Rattle.cells.specs.DigitRun.{error_number, run_number, run_value, run_outcome_of}
use Rattle.export.specs.declared.reply.Told.{Told}
use Rattle.export.specs.declared.reply.Reply.{Reply}
use Rattle.export.specs.State.{state_in, state_words, reader_on, by_reader}
use Rattle.export.specs.Answer.{is_there, how_read, block_place}
use Rattle.export.specs.Code.Block.{place_told, place_in, placed_answer}
use Rattle.export.specs.Code.Reply.{byte_told, read_told, zeros_told, run_told, told_in, number_in, reply_of, refused_reply, reply_words, ReplyBy, IsServed, byte_reply, read_reply, zeros_reply, block_reply, value_reply}

-- An answer's reply is that of its outcome, for each kind of answer.
pub byte_law : (a : Answer (Result (Option ℕ) Refusal)) → reply_of byte_told number_of a ≡ byte_reply (outcome_of a)
unfolding byte_reply
byte_law a = go a.report.found where
  go : (found : Result (Option ℕ) Refusal)
      → ◌≡◌ {A = Reply} (record { number = number_in number_of found; state = a.state; told = told_in byte_told found; taken = a.report.taken; passed = a.report.passed })
      (record { number = refusal_in found; state = a.state; told = record { how = is_there (found_in found); value = found_in found }; taken = a.report.taken; passed = a.report.passed })
  go (Ok b) = refl
  go (Err e) = refl

pub read_law : (a : Answer (Result Read Refusal)) → reply_of read_told number_of a ≡ read_reply (read_outcome_of a)
unfolding read_reply
read_law a = go a.report.found where
  go : (found : Result Read Refusal)
      → ◌≡◌ {A = Reply} (record { number = number_in number_of found; state = a.state; told = told_in read_told found; taken = a.report.taken; passed = a.report.passed })
      (record { number = refusal_in found; state = a.state; told = record { how = how_read (read_byte found) (read_seen found); value = read_seen found }; taken = a.report.taken; passed = a.report.passed })
  go (Ok (read.Taken b)) = refl
  go (Ok (read.Declined b)) = refl
  go (Ok read.End) = refl
  go (Err e) = refl

pub zeros_law : (a : Answer (Result ℕ Refusal)) → reply_of zeros_told number_of a ≡ zeros_reply (skip_outcome_of a)
unfolding zeros_reply
zeros_law a = go a.report.found where
  go : (found : Result ℕ Refusal)
      → ◌≡◌ {A = Reply} (record { number = number_in number_of found; state = a.state; told = told_in zeros_told found; taken = a.report.taken; passed = a.report.passed })
      (record { number = refusal_in found; state = a.state; told = record { how = 0; value = answer_in found }; taken = a.report.taken; passed = a.report.passed })
  go (Ok n) = refl
  go (Err e) = refl

pub block_law : (cursor : ℕ) (a : Answer (Result (Option ℕ) Refusal))
    → reply_of place_told number_of (placed_answer cursor a) ≡ block_reply cursor (block_outcome_of a)
unfolding block_reply
block_law cursor a = go a.report.found where
  go : (found : Result (Option ℕ) Refusal)
      → ◌≡◌ {A = Reply} (record { number = number_in number_of (place_in cursor found); state = a.state; told = told_in place_told (place_in cursor found); taken = a.report.taken; passed = a.report.passed })
      (record { number = refusal_in found; state = a.state; told = record { how = is_there (found_in found); value = block_place cursor (found_in found) }; taken = a.report.taken; passed = a.report.passed })
  go (Ok None) = refl
  go (Ok (Some k)) = refl
  go (Err e) = refl

pub value_law : (a : Answer (Result ℕ RunError)) → reply_of run_told error_number a ≡ value_reply (run_outcome_of a)
unfolding value_reply
value_law a = go a.report.found where
  go : (found : Result ℕ RunError)
      → ◌≡◌ {A = Reply} (record { number = number_in error_number found; state = a.state; told = told_in run_told found; taken = a.report.taken; passed = a.report.passed })
      (record { number = run_number found; state = a.state; told = record { how = is_there (run_value found); value = run_value found }; taken = a.report.taken; passed = a.report.passed })
  go (Ok v) = refl
  go (Err e) = refl

-- A call of a kind whose definition answers outcomes, each of which has its reply.
module _ {A E O : Type 0} (told : A → Told) (number : E → ℕ) (due : O → Reply) where
  reply_due : (who : Option Reader) (e : UnknownReader) (st : State) (answers : Reader → Answer (Result A E) → Type 0) (none : O) (of : Reader → O)
      → refused_reply 19 st ≡ due none
      → ((r : Reader) (a : Answer (Result A E)) → answers r a → reply_of told number a ≡ due (of r))
      → (reply : Reply) → ReplyBy told number answers (ok_or who e) st reply → reply ≡ due (by_reader who none of)
  reply_due None e st answers none of refuses says reply by = by ∙ refuses
  reply_due (Some r) e st answers none of refuses says reply by = by.2 ∙ says r by.0 by.1

  pub served_as : (n : ℕ) (w old : List ℕ) (none : O) (of : Reader → O)
      → refused_reply 19 (state_in w) ≡ due none
      → {answers : Reader → Answer (Result A E) → Type 0} {code : ℕ} {state answer : List ℕ}
      → IsServed told number answers n w old code state answer
      → ((r : Reader) (a : Answer (Result A E)) → answers r a → reply_of told number a ≡ due (of r))
      → record {
        number : code ≡ (due (by_reader (reader_on n (slice_index w 7)) none of)).number;
        moved : state ≡ state_words w (due (by_reader (reader_on n (slice_index w 7)) none of)).state;
        written : answer ≡ reply_words old (due (by_reader (reader_on n (slice_index w 7)) none of));
      }
  served_as n w old none of refuses call says =
      let same = reply_due (reader_on n (slice_index w 7)) (record { 0 = n }) (state_in w) _ none of refuses says call.reply call.by in
      record {
        number = call.returned ∙ ap (λ (r : Reply). r.number) same;
        moved = call.moved ∙ ap (λ (r : Reply). state_words w r.state) same;
        written = call.written ∙ ap (reply_words old) same;
      }

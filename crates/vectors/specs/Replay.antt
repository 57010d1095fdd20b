-- What a record is compared with: the definitions that our library is proved to meet. So a record that is found the
-- same shows that they agree with the Rust there, or with a plain count at the end of a run. Assumes nothing.
use Rattle.std.specs.Prelude.{ℕ, ◌^◌, cond, ◌&&◌, [], ◌∷◌, ◌==◌, nat_lt, slice_index, ⊤, Option, None, Some, Result, Ok, Err}
use Rattle.std.specs.Result.{result_and}
use Rattle.word.specs.Check.{full_check, plain_check}
use Rattle.word.specs.Digit.{is_digit}
use Rattle.word.specs.declared.format_flags.Format.{Format}
use Rattle.vectors.specs.declared.record.Kind.{Kind}
use Rattle.vectors.specs.declared.record.Kind.TheVariants.{Word, Digit, Call, RunEnd}
use Rattle.vectors.specs.declared.record.Record.{Record}
use Rattle.vectors.specs.declared.replay.Answer.{Answer}
use Rattle.vectors.specs.declared.replay.Answer.TheVariants.{Full, Plain, Digit as TheDigit, Call as TheCall, RunEnd as TheRunEnd}
use Rattle.vectors.specs.declared.replay.Fault.{Fault}
use Rattle.vectors.specs.declared.replay.Fault.TheVariants.{Differs, NoRecord}
use Rattle.vectors.specs.Call.{repeated_of}
use Rattle.vectors.specs.RunEnd.{searched_of}

-- the verdict on one answer
abbrev pub verdict : Answer → ℕ → ℕ → Result ⊤ Fault
verdict answer recorded answered =
    cond (recorded == answered) (Ok tt) (Err (Differs (record { answer = answer; recorded = recorded; answered = answered })))

-- field i of a record
abbrev pub value : Record → ℕ → ℕ
value r i = slice_index r.values i

-- `W lo hi full plain`, of 16, 16, 2 and 2 digits
abbrev pub word : Record → Format
word r = record { lo = value r 0; hi = value r 1 }

-- of both answers the first one that differs
unfoldable pub word_verdict : Record → Result ⊤ Fault
word_verdict r =
    cond (r.shape == 0x10100202)
    (result_and (verdict Full (value r 2) (full_check (word r))) (verdict Plain (value r 3) (plain_check (word r))))
    (Err NoRecord)

-- `D byte radix digit`, of 2, 8 and 1 digits
unfoldable pub digit_verdict : Record → Result ⊤ Fault
digit_verdict r =
    cond ((r.shape == 0x020801) && nat_lt (value r 0) (2 ^ 8) && nat_lt (value r 1) (2 ^ 32))
    (verdict TheDigit (value r 2) (cond (is_digit (value r 0) (value r 1)) 1 0))
    (Err NoRecord)

-- a recorded answer beside that of the definitions to the same call
abbrev pub beside : Answer → ℕ → Option ℕ → Result ⊤ Fault
beside answer recorded (Some answered) = verdict answer recorded answered
beside answer recorded None = Err NoRecord

-- `R what lo hi bytes answer`, of 16 digits each
unfoldable pub call_verdict : Record → Result ⊤ Fault
call_verdict r =
    cond (r.shape == 0x1010101010)
    (beside TheCall (value r 4) (repeated_of (value r 0) (record { lo = value r 1; hi = value r 2 }) (value r 3)))
    (Err NoRecord)

-- `E what b0 b1 b2 b3 b4 answer`, of 16 digits each: a search for the end of a run
unfoldable pub run_end_verdict : Record → Result ⊤ Fault
run_end_verdict r =
    cond (r.shape == 0x10101010101010)
    (beside TheRunEnd (value r 6) (searched_of (value r 0) (value r 1 ∷ value r 2 ∷ value r 3 ∷ value r 4 ∷ value r 5 ∷ [])))
    (Err NoRecord)

-- by the kind
abbrev pub record_verdict : Kind → Record → Result ⊤ Fault
record_verdict Word r = word_verdict r
record_verdict Digit r = digit_verdict r
record_verdict Call r = call_verdict r
record_verdict RunEnd r = run_end_verdict r

abbrev pub verdict_of : Option Record → Result ⊤ Fault
verdict_of None = Err NoRecord
verdict_of (Some r) = record_verdict r.kind r

-- The example of document 01's call script: a theorem about the definition, by computation. Assumes nothing.
use mathlib.Core.Path.{◌≡◌}
use mathlib.Core.List.{List, [], ◌∷◌}
use Prim.Native.Nat.{ℕ}
use Rattle.reader.specs.State.{reader_named}
use Rattle.reader.proofs.open.Example.{opens, answers}
use Rattle.script.specs.Decimal.{decimal}
use Rattle.script.specs.Record.{kind_of, record_at}
use Rattle.script.specs.Reply.{outcome_reply, reply_of, reply_line}
use Rattle.script.specs.Run.{open_text, call_response}
use Rattle.script.specs.Script.{response_at, output_of}

-- text `1_2`, the word with separator `_`, radix 10 and I, two takes and a peek
abbrev pub example : List ℕ
example =
    0 ∷ 0x31 ∷ 0 ∷ 0x5F ∷ 0 ∷ 0x32
    ∷ 1 ∷ 0 ∷ 0 ∷ 0 ∷ 0 ∷ 1 ∷ 0 ∷ 0 ∷ 0 ∷ 0x5F ∷ 0 ∷ 0 ∷ 0 ∷ 0 ∷ 0x0A ∷ 0 ∷ 0
    ∷ 3 ∷ 0 ∷ 3 ∷ 0 ∷ 2 ∷ 0 ∷ []

-- `1 0`, `3 49 1 1 0`, `3 50 3 1 1`, `2 - 3 0 0`
abbrev pub printed : List ℕ
printed =
    0x31 ∷ 32 ∷ 0x30 ∷ 10
    ∷ 0x33 ∷ 32 ∷ 0x34 ∷ 0x39 ∷ 32 ∷ 0x31 ∷ 32 ∷ 0x31 ∷ 32 ∷ 0x30 ∷ 10
    ∷ 0x33 ∷ 32 ∷ 0x35 ∷ 0x30 ∷ 32 ∷ 0x33 ∷ 32 ∷ 0x31 ∷ 32 ∷ 0x31 ∷ 10
    ∷ 0x32 ∷ 32 ∷ 0x2D ∷ 32 ∷ 0x33 ∷ 32 ∷ 0x30 ∷ 32 ∷ 0x30 ∷ 10 ∷ []

pub example_prints : output_of example ≡ printed
unfolding reader_named decimal kind_of record_at outcome_reply reply_of reply_line open_text call_response response_at output_of
example_prints = rw (opens, answers.0, answers.1, answers.2)

-- A block is told by the place where it begins (src/block.rt). Assumes nothing.
use Rattle.std.specs.Prelude.{ℕ, Option, Some, None, Result, Ok, Err}
use Rattle.reader.specs.declared.answer.Answer.{Answer}
use Rattle.reader.specs.declared.state.Refusal.{Refusal}
use Rattle.export.specs.declared.reply.Told.{Told}
use Rattle.export.specs.declared.block.Place.{Place}

abbrev pub place_told : Option Place → Told
place_told None = record { how = 0; value = None }
place_told (Some place) = record { how = 1; value = Some place.0 }

-- a block taken at a cursor
abbrev pub place_in : ℕ → Result (Option ℕ) Refusal → Result (Option Place) Refusal
place_in cursor (Ok None) = Ok None
place_in cursor (Ok (Some k)) = Ok (Some (record { 0 = cursor }))
place_in cursor (Err e) = Err e

abbrev pub placed_answer : ℕ → Answer (Result (Option ℕ) Refusal) → Answer (Result (Option Place) Refusal)
placed_answer cursor a =
    record { report = record { found = place_in cursor a.report.found; taken = a.report.taken; passed = a.report.passed }; state = a.state }

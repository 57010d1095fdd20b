-- The lines of an input, each compared and counted, however reads cut it. Assumes nothing.
use Rattle.std.specs.Prelude.{ℕ, ◌+◌, ◌-◌, ◌^◌, Bool, true, false, cond, List, [], ◌∷◌, ◌==◌, nat_lt, nat_le, min, take, set, replicate, ⊤, Option, None, Some, Result, Ok, Err}
use Rattle.std.specs.Option.{option_map}
use Rattle.vectors.specs.declared.record.Kind.{Kind}
use Rattle.vectors.specs.declared.record.Kind.TheVariants.{Word, Digit, Call, RunEnd}
use Rattle.vectors.specs.declared.record.Record.{Record}
use Rattle.vectors.specs.declared.replay.Fault.{Fault}
use Rattle.vectors.specs.declared.replay.Fault.TheVariants.{Differs, NoRecord}
use Rattle.vectors.specs.declared.tally.Count.{Count}
use Rattle.vectors.specs.declared.tally.Tally.{Tally}
use Rattle.vectors.specs.declared.lines.Progress.{Progress}
use Rattle.vectors.specs.Line.{record_of}
use Rattle.vectors.specs.Replay.{verdict_of}

-- one more, up to the largest number
abbrev pub one_more : ℕ → ℕ
one_more n = min (n + 1) (2 ^ 64 - 1)

abbrev pub one_line : Count → Bool → Count
one_line c differs =
    record { lines = one_more c.lines; differences = cond differs (one_more c.differences) c.differences }

-- by the line's kind; the others are those of none
abbrev pub of_its_kind : Tally → Option Kind → Bool → Tally
of_its_kind t (Some Word) differs =
    record { words = one_line t.words differs; digits = t.digits; calls = t.calls; run_ends = t.run_ends; others = t.others }
of_its_kind t (Some Digit) differs =
    record { words = t.words; digits = one_line t.digits differs; calls = t.calls; run_ends = t.run_ends; others = t.others }
of_its_kind t (Some Call) differs =
    record { words = t.words; digits = t.digits; calls = one_line t.calls differs; run_ends = t.run_ends; others = t.others }
of_its_kind t (Some RunEnd) differs =
    record { words = t.words; digits = t.digits; calls = t.calls; run_ends = one_line t.run_ends differs; others = t.others }
of_its_kind t None differs =
    record { words = t.words; digits = t.digits; calls = t.calls; run_ends = t.run_ends; others = one_more t.others }

abbrev pub tallied : Tally → Option Kind → Result ⊤ Fault → Tally
tallied t kind (Ok same) = of_its_kind t kind false
tallied t kind (Err (Differs d)) = of_its_kind t kind true
tallied t kind (Err NoRecord) = of_its_kind t None true

abbrev pub no_count : Count
no_count = record { lines = 0; differences = 0 }

abbrev pub no_lines : Tally
no_lines = record { words = no_count; digits = no_count; calls = no_count; run_ends = no_count; others = 0 }

-- how many lines are told: each that is not the same, up to 20
abbrev pub also_told : ℕ → Result ⊤ Fault → ℕ
also_told told (Ok same) = told
also_told told (Err fault) = told + 1

abbrev pub told_after : ℕ → Result ⊤ Fault → ℕ
told_after told v = cond (nat_le 20 told) told (also_told told v)

module _ {ROOM : ℕ} where
  -- a line that fills its buffer is too long to be a record
  unfoldable pub filled_record : Progress ROOM → Option Record
  filled_record p = cond (nat_lt p.filled ROOM) (record_of (take p.filled p.line)) None

  -- a line has ended: its record is compared with the definitions, counted and told
  abbrev pub settled : Progress ROOM → Option Record → Progress ROOM
  settled p r =
      record {
        line = p.line;
        filled = 0;
        ended = one_more p.ended;
        told = told_after p.told (verdict_of r);
        tally = tallied p.tally (option_map (λ r. r.kind) r) (verdict_of r);
      }

  unfoldable pub line_ended : Progress ROOM → Progress ROOM
  line_ended p = settled p (filled_record p)

  -- one byte of the input, where 10 ends a line; what finds no room in the line's buffer is dropped
  unfoldable pub byte_taken : ℕ → Progress ROOM → Progress ROOM
  byte_taken b p =
      cond (b == 10)
      (line_ended p)
      (cond (nat_lt p.filled ROOM)
      (record { line = set p.line p.filled b; filled = p.filled + 1; ended = p.ended; told = p.told; tally = p.tally })
      p)

  unfoldable pub all_taken : List ℕ → Progress ROOM → Progress ROOM
  all_taken [] p = p
  all_taken (b ∷ rest) p = all_taken rest (byte_taken b p)

  -- a last line needs no line end
  unfoldable pub finished : Progress ROOM → Progress ROOM
  finished p = cond (p.filled == 0) p (line_ended p)

-- nothing is taken in yet
abbrev pub beginning : (ROOM : ℕ) → Progress ROOM
beginning ROOM = record { line = replicate ROOM 0; filled = 0; ended = 0; told = 0; tally = no_lines }

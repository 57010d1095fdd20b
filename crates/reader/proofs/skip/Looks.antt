-- A look that found a byte or the end is the peek that passed as many separators as the cursor moved, and what each call that begins
-- with a look answers for what was seen: for peeks, takes and conditional reads. Assumes nothing.
use Rattle.std.proofs.Common.{◌≡◌, ℕ, ◌+◌, ◌-◌, ◌<◌, ◌≤◌, Bool, true, false, List, length, IfSome, Some, None, Ok, Option, sym, arith}
use Rattle.reader.specs.declared.state.State.{State}
use Rattle.reader.specs.declared.skip.Sight.{Sight}
use Rattle.reader.specs.Code.Looks.{look_outcome}
use Rattle.reader.specs.Answer.{number_of}
use Rattle.reader.specs.Place.{byte_at}
use Rattle.reader.specs.Calls.{seen_past, refused, peek_of, taken_from, next_of, read_if_of, read_of, refused_read}
use Rattle.reader.specs.declared.state.Reader.{Reader}
use Rattle.reader.specs.declared.state.Refusal.{Refusal}
use Rattle.reader.specs.State.{moved_to, count_sum}
use Rattle.reader.specs.Reading.{Reading}
use Rattle.reader.proofs.passing.Places.{byte_inside}

module _ (s : List ℕ) (st : State) (place k : ℕ) (moves : place ≡ st.cursor + k) where
  pub looked : (byte : Option ℕ) → byte ≡ byte_at s place
      → look_outcome st (Ok (record { byte = byte; place = place; passed = place - st.cursor })) ≡ seen_past s st k
  looked byte seen =
      let passed : place - st.cursor ≡ k = omega arith in
      rw (passed, seen, moves)

  pub look_fits : (byte : Option ℕ) → byte ≡ byte_at s place → count_sum st ≤ st.cursor → IfSome byte (λ _. (place < length s) × (count_sum st ≤ place))
  look_fits None seen within = tt
  look_fits (Some b) seen within = (byte_inside s place b (sym seen), omega (arith, moves, within))

module _ (m : Reading) (s : List ℕ) (st : State) (r : Reader) where
  module _ (x : Sight) (looks : look_outcome st (Ok x) ≡ peek_of m s st r) where
    module _ (b : ℕ) (seen : x.byte ≡ Some b) where
      pub takes_byte : record { refusal = 0; byte = Some b; taken = 1; passed = x.passed; state = taken_from m r b (moved_to st x.place) } ≡ next_of m s st r
      unfolding next_of
      takes_byte = rw (sym looks, seen)

      pub reads_byte : (wanted : ℕ → Bool) → wanted b ≡ true
          → record { outcome = record { refusal = 0; byte = Some b; taken = 1; passed = x.passed; state = moved_to st (x.place + 1) }; seen = Some b } ≡ read_of m s st r wanted
      unfolding read_if_of moved_to
      reads_byte wanted holds = rw (sym looks, seen, holds)

      pub declines_byte : (wanted : ℕ → Bool) → wanted b ≡ false
          → record { outcome = record { refusal = 0; byte = None; taken = 0; passed = x.passed; state = moved_to st x.place }; seen = Some b } ≡ read_of m s st r wanted
      unfolding read_if_of
      declines_byte wanted fails = rw (sym looks, seen, fails)

    module _ (seen : x.byte ≡ None) where
      pub takes_end : record { refusal = 0; byte = None; taken = 0; passed = x.passed; state = moved_to st x.place } ≡ next_of m s st r
      unfolding next_of
      takes_end = rw (sym looks, seen)

      pub reads_end : (wanted : ℕ → Bool)
          → record { outcome = record { refusal = 0; byte = None; taken = 0; passed = x.passed; state = moved_to st x.place }; seen = None } ≡ read_of m s st r wanted
      unfolding read_if_of
      reads_end wanted = rw (sym looks, seen)

  module _ (e : Refusal) (looks : refused (number_of e) st ≡ peek_of m s st r) where
    pub takes_refused : refused (number_of e) st ≡ next_of m s st r
    unfolding next_of
    takes_refused = rw (sym looks)

    pub reads_refused : (wanted : ℕ → Bool) → refused_read (number_of e) st ≡ read_of m s st r wanted
    unfolding read_if_of
    reads_refused wanted = rw (sym looks)

-- What a plain peek finds past the end and within, and what a plain take makes of it. Assumes nothing.
use Rattle.std.proofs.Common.{◌≡◌, ℕ, ◌+◌, ◌<◌, ◌≤◌, max, Bool, true, false, leb, List, length, Some, None, Ok, Err, Option, Result, sym, refl, ap, ◌∙◌, add-zero, arith, le-leb}
use borrow.Author.Tests.{lt-leb}
use Rattle.std.proofs.lemmas.Option.{none-some}
use Rattle.reader.specs.declared.noskip.CursorPastEnd.{CursorPastEnd}
use Rattle.reader.specs.Place.{byte_at}
use Rattle.reader.specs.Plain.{PlainOutcome, plain_byte, taken_of, plain_outcome_of, plain_peek_of, plain_take_byte, plain_next_of}
use Rattle.reader.proofs.passing.Places.{byte_inside}

module _ (s : List ℕ) (at : ℕ) where
  pub past_end : length s < at → plain_peek_of s at ≡ record { refusal = 16; byte = None; taken = 0; passed = 0; cursor = at }
  unfolding plain_peek_of
  past_end h = rw (lt-leb at (length s) h)

  pub within : at ≤ length s → plain_peek_of s at ≡ record { refusal = 0; byte = byte_at s at; taken = 0; passed = 0; cursor = at }
  unfolding plain_peek_of
  within h = rw (le-leb at (length s) h)

  module _ (x : Result (Option ℕ) CursorPastEnd)
      (seen : plain_outcome_of (record { report = record { found = x; taken = 0; passed = 0 }; cursor = record { cursor = at } }) ≡ plain_peek_of s at) where
    -- a byte that is seen lies within the buffer
    pub room : at + taken_of (plain_byte x) ≤ max at (length s)
    unfolding plain_peek_of
    room = go (leb at (length s)) refl (plain_byte x) (ap (λ (o : PlainOutcome). o.byte) seen) where
      go : (t : Bool) → leb at (length s) ≡ t → (o : Option ℕ) → o ≡ (plain_peek_of s at).byte → at + taken_of o ≤ max at (length s)
      go t e None same = omega arith
      go true e (Some b) same = let h = byte_inside s at b (sym (same ∙ rw e)) in omega (arith, h)
      go false e (Some b) same = absurd (none-some b (sym (same ∙ rw e)))

    pub taken : plain_outcome_of (record { report = record { found = x; taken = taken_of (plain_byte x); passed = 0 }; cursor = record { cursor = at + taken_of (plain_byte x) } }) ≡ plain_next_of s at
    unfolding plain_next_of
    taken = rw (sym seen) (go x) where
      go : (y : Result (Option ℕ) CursorPastEnd)
          → plain_outcome_of (record { report = record { found = y; taken = taken_of (plain_byte y); passed = 0 }; cursor = record { cursor = at + taken_of (plain_byte y) } })
          ≡ plain_take_byte (plain_outcome_of (record { report = record { found = y; taken = 0; passed = 0 }; cursor = record { cursor = at } })) (plain_byte y)
      go (Ok (Some b)) = refl
      go (Ok None) = rw (add-zero at)
      go (Err e) = rw (add-zero at)

    -- where no byte is seen, a take answers what the peek did
    pub stays : plain_byte x ≡ None → plain_outcome_of (record { report = record { found = x; taken = 0; passed = 0 }; cursor = record { cursor = at } }) ≡ plain_next_of s at
    unfolding plain_next_of
    stays none = rw (sym seen) (rw none refl)

-- What a conditional read may answer, by cases; and that it asks its set only of bytes of the buffer, so that two sets that agree on
-- all bytes read alike: for this room and both demands. Assumes nothing.
use Rattle.std.proofs.Common.{◌≡◌, ℕ, ◌+◌, ◌<◌, Bool, true, false, eqb, List, length, get_or, Some, None, Option, refl, ap}
use Rattle.std.proofs.lemmas.Option.{none-some}
use Rattle.reader.specs.declared.state.Reader.{Reader}
use Rattle.reader.specs.declared.state.State.{State}
use Rattle.reader.specs.Reading.{Reading, passed_at}
use Rattle.reader.specs.Answer.{Outcome}
use Rattle.reader.specs.Calls.{peek_of, read_taken, read_declined, read_byte_if, read_if_of, read_of, refusal_of, peeked}
use Rattle.reader.specs.Place.{byte_at}
use Rattle.reader.specs.State.{count_of}
use Rattle.reader.proofs.passing.Places.{byte_here, byte_inside}

module _ (m : Reading) (s : List ℕ) (st : State) (r : Reader) where
  abbrev seen : Outcome
  seen = peek_of m s st r

  -- it takes the byte that a peek sees, or declines it, or, where a peek sees none, answers what the peek answers
  pub read_cases : (wanted : ℕ → Bool) (P : Outcome → Type 0)
      → ((b : ℕ) → (peek_of m s st r).byte ≡ Some b → P (read_taken (peek_of m s st r) b)) → P (read_declined (peek_of m s st r)) → ((peek_of m s st r).byte ≡ None → P (peek_of m s st r))
      → P (read_if_of m s st r wanted)
  unfolding read_if_of
  read_cases wanted P takes declines ends = go seen.byte refl where
    asked : (b : ℕ) → seen.byte ≡ Some b → (t : Bool) → wanted b ≡ t → P (read_byte_if wanted seen (Some b))
    asked b e true t = rw t (takes b e)
    asked b e false t = rw t declines

    go : (b : Option ℕ) → seen.byte ≡ b → P (read_byte_if wanted seen b)
    go None e = ends e
    go (Some b) e = asked b e (wanted b) refl

module _ (s : List ℕ) (bytes : (i : ℕ) → i < length s → get_or s i 0 < 256) where
  byte_small : (k b : ℕ) → byte_at s k ≡ Some b → b < 256
  byte_small k b e =
      let h = byte_inside s k b e in
      let same : get_or s k 0 ≡ b = cc (byte_here s k h) in
      rw same at (bytes k h)

  seen_small : (m : Reading) (st : State) (r : Reader) (b : ℕ) → (peek_of m s st r).byte ≡ Some b → b < 256
  unfolding peek_of peeked
  seen_small m st r b e = go (eqb (refusal_of m s st r) 0) refl e where
    go : (t : Bool) → eqb (refusal_of m s st r) 0 ≡ t → (peek_of m s st r).byte ≡ Some b → b < 256
    go true t h = byte_small (st.cursor + passed_at m s (eqb (count_of st r) 0) st.cursor) b (rw t at h)
    go false t h = absurd (none-some b (rw t at h))

  module _ (f g : ℕ → Bool) (agree : (b : ℕ) → b < 256 → f b ≡ g b) where
    same_read : (seen : Outcome) (o : Option ℕ) → ((b : ℕ) → o ≡ Some b → b < 256) → read_byte_if f seen o ≡ read_byte_if g seen o
    same_read seen None small = refl
    same_read seen (Some b) small = rw (agree b (small b refl))

    same_outcome : (m : Reading) (st : State) (r : Reader) → read_if_of m s st r f ≡ read_if_of m s st r g
    unfolding read_if_of
    same_outcome m st r = same_read (peek_of m s st r) (peek_of m s st r).byte (seen_small m st r)

    pub reads_alike : (m : Reading) (st : State) (r : Reader) → read_of m s st r f ≡ read_of m s st r g
    reads_alike m st r = ap (λ (o : Outcome). record { outcome = o; seen = (peek_of m s st r).byte }) (same_outcome m st r)

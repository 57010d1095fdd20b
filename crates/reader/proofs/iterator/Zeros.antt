-- The zero skip, read by read: what a read of it takes, what the skip answers where it is refused and where it is not, and that its
-- reads have come to their end: for this room, and for the two demands. Assumes nothing.
use Rattle.std.proofs.Common.{◌≡◌, ℕ, ◌+◌, Bool, true, false, eqb, List, [], ◌∷◌, length, Some, None, sym, refl, ap, ◌∙◌}
use Rattle.std.proofs.lemmas.Option.{none-some}
use Rattle.reader.specs.declared.state.Reader.{Reader}
use Rattle.reader.specs.declared.state.State.{State}
use Rattle.reader.specs.declared.state.Refusal.{Refusal}
use Rattle.reader.specs.State.{moved_to}
use Rattle.reader.specs.Reading.{Reading}
use Rattle.reader.specs.Answer.{number_of, Outcome, ReadOutcome, SkipOutcome}
use Rattle.reader.specs.Repeat.{repeated}
use Rattle.reader.specs.ZeroSkip.{skip_refusal, is_zero, raised, zero_read_of, zero_reads_of, skipped, refused_skip, skip_zeros_of}
use Rattle.reader.specs.History.{with_seen, outcomes_of, reads_made}
use Rattle.reader.proofs.state.Refusals.{refusal_tells}
use Rattle.reader.proofs.iterator.ConditionalReads.{read_cases}
use Rattle.reader.proofs.Repeats.{TakesOne, repeated_ends}
use Rattle.reader.proofs.state.Updates.{counted_stays}
use Rattle.reader.proofs.skip.Takes.{peek_byte}

-- a read of a zero skip with a byte took one
pub zero_takes_one : (m : Reading) (s : List ℕ) (st : State) (r : Reader) (b : ℕ) → (zero_read_of m s r st).byte ≡ Some b → TakesOne s st (zero_read_of m s r st)
unfolding zero_read_of moved_to
zero_takes_one m s st r b =
    read_cases m s st r is_zero (λ o. (raised r o o.byte).byte ≡ Some b → TakesOne s st (raised r o o.byte))
    (λ c e h.
    let on = peek_byte m s st r c e in
    record { moves = counted_stays _ r ∙ ap (λ (n : ℕ). n + 1) on.moves; inside = on.inside; one = refl })
    (λ h. absurd (none-some b h))
    (λ e h. absurd (none-some b (rw e at h)))

module _ (m : Reading) (s : List ℕ) (st : State) (r : Reader) where
  pub skip_admitted : skip_refusal m.flags s st r ≡ 0 → skipped (repeated (length s) (zero_read_of m s r) st) ≡ skip_zeros_of m s st r
  unfolding skip_zeros_of
  skip_admitted clear = rw clear

  pub skip_refused : (e : Refusal) → number_of e ≡ skip_refusal m.flags s st r → refused_skip (number_of e) st ≡ skip_zeros_of m s st r
  unfolding skip_zeros_of
  skip_refused e number = rw (sym number, refusal_tells e)

-- what reads did is not changed by what they saw
pub outcomes_back : (m : Reading) (s : List ℕ) (r : Reader) (st : State) (reads : List Outcome) → outcomes_of (with_seen m s r st reads) ≡ reads
outcomes_back m s r st [] = refl
outcomes_back m s r st (o ∷ rest) = ap (λ (l : List Outcome). o ∷ l) (outcomes_back m s r o.state rest)

-- a zero skip makes its reads, or it is refused and makes none
pub skip_cases :
    (m : Reading) (s : List ℕ) (st : State) (r : Reader) (P : SkipOutcome → List ReadOutcome → Type 0)
    → (eqb (skip_refusal m.flags s st r) 0 ≡ true → P (skipped (repeated (length s) (zero_read_of m s r) st)) (with_seen m s r st (zero_reads_of m s st r)))
    → (eqb (skip_refusal m.flags s st r) 0 ≡ false → P (refused_skip (skip_refusal m.flags s st r) st) [])
    → P (skip_zeros_of m s st r) (reads_made m s st r)
unfolding skip_zeros_of
skip_cases m s st r P reads refuses = go (eqb (skip_refusal m.flags s st r) 0) refl where
  go : (t : Bool) → eqb (skip_refusal m.flags s st r) 0 ≡ t → P (skip_zeros_of m s st r) (reads_made m s st r)
  go true t = rw t (reads t)
  go false t = rw (t, t) (refuses t)

-- the reads of a zero skip have come to their end: the last one answers no byte
pub zero_skip_ends : (m : Reading) (s : List ℕ) (st : State) (r : Reader) → (repeated (length s) (zero_read_of m s r) st).byte ≡ None
zero_skip_ends m s st r = repeated_ends s (zero_read_of m s r) (λ here. zero_takes_one m s here r) st

-- A peek put in before a call by the same reader, over any reading that settles: the call answers as without it, only that the peek
-- has passed what the call would have passed first. Assumes nothing.
use Rattle.std.proofs.Common.{◌≡◌, ℕ, zero, suc, ◌+◌, ◌≤◌, Bool, true, false, eqb, List, [], ◌∷◌, length, Some, None, Option, sym, refl, ap, ◌∙◌, add-zero, arith, eqb-true}
use Rattle.reader.specs.declared.state.Reader.{Reader}
use Rattle.reader.specs.declared.state.State.{State}
use Rattle.reader.specs.Reading.{Reading, passed_at}
use Rattle.reader.specs.State.{count_of, count_sum, moved_to}
use Rattle.reader.specs.Answer.{Outcome}
use Rattle.reader.specs.Calls.{refusal_of, peeked, peek_of, take_byte, next_of, read_byte_if, read_if_of, read_of}
use Rattle.reader.specs.Repeat.{summed, until_none, repeated}
use Rattle.reader.specs.ZeroSkip.{is_zero, raised, zero_read_of, skip_refusal, skipped, skip_zeros_of}
use Rattle.reader.proofs.state.Refusals.{within, skip_within, still_admitted, still_skipping, peek_admitted, turned_away}
use Rattle.reader.proofs.passing.Passed.{passed_fits}
use Rattle.reader.proofs.iterator.Zeros.{skip_admitted}
use Rattle.reader.proofs.ByteTally.Settling.{Settles, passes_no_more}
use Rattle.reader.proofs.state.Updates.{count_moved}
use Rattle.reader.proofs.ByteTally.Peek.{peek_inside, peek_counts}

-- the same outcome with nothing passed
abbrev pub without_passed : Outcome → Outcome
without_passed o = record { refusal = o.refusal; byte = o.byte; taken = o.taken; passed = 0; state = o.state }

-- the calls after what was seen look at it alone
module _ (m : Reading) (r : Reader) (o : Outcome) where
  take_without : (b : Option ℕ) → take_byte m r (without_passed o) b ≡ without_passed (take_byte m r o b)
  take_without None = refl
  take_without (Some b) = refl

  pub take_passed : (b : Option ℕ) → (take_byte m r o b).passed ≡ o.passed
  take_passed None = refl
  take_passed (Some b) = refl

module _ (wanted : ℕ → Bool) (o : Outcome) where
  read_without : (b : Option ℕ) → read_byte_if wanted (without_passed o) b ≡ without_passed (read_byte_if wanted o b)
  read_without None = refl
  read_without (Some b) = go (wanted b) refl where
    go : (t : Bool) → wanted b ≡ t → read_byte_if wanted (without_passed o) (Some b) ≡ without_passed (read_byte_if wanted o (Some b))
    go true e = rw e
    go false e = rw e

  pub read_passed : (b : Option ℕ) → (read_byte_if wanted o b).passed ≡ o.passed
  read_passed None = refl
  read_passed (Some b) = go (wanted b) refl where
    go : (t : Bool) → wanted b ≡ t → (read_byte_if wanted o (Some b)).passed ≡ o.passed
    go true e = rw e
    go false e = rw e

raised_without : (r : Reader) (o : Outcome) (b : Option ℕ) → raised r (without_passed o) b ≡ without_passed (raised r o b)
raised_without r o None = refl
raised_without r o (Some b) = refl

pub raised_passed : (r : Reader) (o : Outcome) (b : Option ℕ) → (raised r o b).passed ≡ o.passed
raised_passed r o None = refl
raised_passed r o (Some b) = refl

-- calls told as one, from a first one that passed nothing
module _ (o : Outcome) where
  summed_taken : (rest : List Outcome) → (summed (without_passed o) rest).taken ≡ (summed o rest).taken
  summed_taken [] = refl
  summed_taken (next ∷ rest) = refl

  summed_state : (rest : List Outcome) → (summed (without_passed o) rest).state ≡ (summed o rest).state
  summed_state [] = refl
  summed_state (next ∷ rest) = refl

  summed_passed : (rest : List Outcome) → o.passed + (summed (without_passed o) rest).passed ≡ (summed o rest).passed
  summed_passed [] = omega arith
  summed_passed (next ∷ rest) = omega arith

  onward_same : (n : ℕ) (call : State → Outcome) → until_none n call (without_passed o) ≡ until_none n call o
  unfolding until_none
  onward_same zero call = refl
  onward_same (suc n) call = refl

module _ (m : Reading) (law : Settles m) (s : List ℕ) (st : State) (r : Reader) where
  -- a second peek sees what the first one saw, and passes nothing
  seen_again : refusal_of m s st r ≡ 0 → peek_of m s (peeked m s st r).state r ≡ without_passed (peeked m s st r)
  unfolding peeked moved_to
  seen_again clear =
      let w = within m.flags s st r clear in
      let k = passed_at m s (eqb (count_of st r) 0) st.cursor in
      let here = moved_to st (st.cursor + k) in
      let inside : here.cursor ≤ length s = passed_fits m s (eqb (count_of st r) 0) st.cursor w.0 in
      let counts : count_sum here ≤ here.cursor = omega (arith, w.1) in
      peek_admitted m s here r (still_admitted m.flags s st here r inside counts clear)
      ∙ rw (count_moved st (st.cursor + k) r, passes_no_more m law s (eqb (count_of st r) 0) st.cursor, add-zero)

  pub peek_twice : peek_of m s (peek_of m s st r).state r ≡ without_passed (peek_of m s st r)
  peek_twice = go (eqb (refusal_of m s st r) 0) refl where
    go : (t : Bool) → eqb (refusal_of m s st r) 0 ≡ t → peek_of m s (peek_of m s st r).state r ≡ without_passed (peek_of m s st r)
    go true t =
        let clear = eqb-true (refusal_of m s st r) 0 t in
        let seen = peek_admitted m s st r clear in
        ap (λ (o : Outcome). peek_of m s o.state r) seen ∙ seen_again clear ∙ sym (ap without_passed seen)
    go false t =
        let seen = turned_away m s st r t in
        ap (λ (o : Outcome). peek_of m s o.state r) seen ∙ seen ∙ sym (ap without_passed seen)

  pub take_after_peek : next_of m s (peek_of m s st r).state r ≡ without_passed (next_of m s st r)
  unfolding next_of
  take_after_peek =
      ap (λ (o : Outcome). take_byte m r o o.byte) peek_twice ∙ take_without m r (peek_of m s st r) (peek_of m s st r).byte

  read_after_peek : (wanted : ℕ → Bool) → read_if_of m s (peek_of m s st r).state r wanted ≡ without_passed (read_if_of m s st r wanted)
  unfolding read_if_of
  read_after_peek wanted =
      ap (λ (o : Outcome). read_byte_if wanted o o.byte) peek_twice ∙ read_without wanted (peek_of m s st r) (peek_of m s st r).byte

  -- and sees what it would have seen
  pub read_sees_same : (wanted : ℕ → Bool)
      → read_of m s (peek_of m s st r).state r wanted ≡ record { outcome = without_passed (read_if_of m s st r wanted); seen = (peek_of m s st r).byte }
  read_sees_same wanted = λ i. record { outcome = read_after_peek wanted i; seen = (peek_twice i).byte }

  zero_after_peek : zero_read_of m s r (peek_of m s st r).state ≡ without_passed (zero_read_of m s r st)
  unfolding zero_read_of
  zero_after_peek =
      ap (λ (o : Outcome). raised r o o.byte) (read_after_peek is_zero)
      ∙ raised_without r (read_if_of m s st r is_zero) (read_if_of m s st r is_zero).byte

  pub take_passes : (next_of m s st r).passed ≡ (peek_of m s st r).passed
  unfolding next_of
  take_passes = take_passed m r (peek_of m s st r) (peek_of m s st r).byte

  pub read_passes : (wanted : ℕ → Bool) → (read_if_of m s st r wanted).passed ≡ (peek_of m s st r).passed
  unfolding read_if_of
  read_passes wanted = read_passed wanted (peek_of m s st r) (peek_of m s st r).byte

  zero_passes : (zero_read_of m s r st).passed ≡ (peek_of m s st r).passed
  unfolding zero_read_of
  zero_passes = raised_passed r (read_if_of m s st r is_zero) (read_if_of m s st r is_zero).byte ∙ read_passes is_zero

  -- the reads of a zero skip after a peek
  zeros_after_peek : repeated (length s) (zero_read_of m s r) (peek_of m s st r).state
      ≡ summed (without_passed (zero_read_of m s r st)) (until_none (length s) (zero_read_of m s r) (zero_read_of m s r st))
  zeros_after_peek =
      ap (λ (o : Outcome). summed o (until_none (length s) (zero_read_of m s r) o)) zero_after_peek
      ∙ ap (summed (without_passed (zero_read_of m s r st))) (onward_same (zero_read_of m s r st) (length s) (zero_read_of m s r))

  -- a zero skip that answers 0 for a number is not refused
  pub skip_clear : (skip_zeros_of m s st r).refusal ≡ 0 → skip_refusal m.flags s st r ≡ 0
  unfolding skip_zeros_of
  skip_clear e = go (eqb (skip_refusal m.flags s st r) 0) refl e where
    go : (t : Bool) → eqb (skip_refusal m.flags s st r) 0 ≡ t → (skip_zeros_of m s st r).refusal ≡ 0 → skip_refusal m.flags s st r ≡ 0
    go true t h = eqb-true (skip_refusal m.flags s st r) 0 t
    go false t h = rw t at h

  -- so a zero skip that is not refused takes as many zeros, and returns the same state
  module _ (clear : skip_refusal m.flags s st r ≡ 0) where
    skips : skip_zeros_of m s st r ≡ skipped (repeated (length s) (zero_read_of m s r) st)
    skips = sym (skip_admitted m s st r clear)

    skips_after_peek : skip_zeros_of m s (peek_of m s st r).state r
        ≡ skipped (summed (without_passed (zero_read_of m s r st)) (until_none (length s) (zero_read_of m s r) (zero_read_of m s r st)))
    unfolding skip_zeros_of
    skips_after_peek =
        let w = skip_within m.flags s st r clear in
        let here = (peek_of m s st r).state in
        rw (still_skipping m.flags s st here r (peek_inside m s st r w.0) (peek_counts m s st r w.1) clear) (ap skipped zeros_after_peek)

    pub zeros_same : (skip_zeros_of m s (peek_of m s st r).state r).zeros ≡ (skip_zeros_of m s st r).zeros
    zeros_same = rw (skips_after_peek, skips, summed_taken (zero_read_of m s r st) (until_none (length s) (zero_read_of m s r) (zero_read_of m s r st)))

    pub state_same : (skip_zeros_of m s (peek_of m s st r).state r).state ≡ (skip_zeros_of m s st r).state
    state_same = rw (skips_after_peek, skips) (summed_state (zero_read_of m s r st) (until_none (length s) (zero_read_of m s r) (zero_read_of m s r st)))

    pub passed_adds : (peek_of m s st r).passed + (skip_zeros_of m s (peek_of m s st r).state r).passed ≡ (skip_zeros_of m s st r).passed
    passed_adds =
        rw (skips_after_peek, skips, ← zero_passes)
        (summed_passed (zero_read_of m s r st) (until_none (length s) (zero_read_of m s r) (zero_read_of m s r st)))

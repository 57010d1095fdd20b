-- What a zero skip answers beside its reads, and what it adds to the count of the history: as many zeros as there are reads that took
-- one. Over any reading. Assumes nothing.
use Rattle.std.proofs.Common.{◌≡◌, ℕ, zero, suc, ◌+◌, ◌≤◌, Bool, true, false, cond, eqb, List, [], ◌∷◌, length, Some, None, Option, sym, refl, ap, ◌∙◌, subst, add-zero, arith, eqb-true}
use borrow.Author.Tests.{eqb-false}
use Rattle.std.proofs.lemmas.Option.{none-some}
use Rattle.reader.specs.declared.state.Reader.{Reader}
use Rattle.reader.specs.declared.state.State.{State}
use Rattle.reader.specs.Reading.{Reading}
use Rattle.reader.specs.Answer.{Outcome, ReadOutcome}
use Rattle.reader.specs.Calls.{refusal_of, peeked, peek_of, read_byte_if, read_if_of}
use Rattle.reader.specs.Repeat.{summed, if_byte, until_none, repeated}
use Rattle.reader.specs.ZeroSkip.{is_zero, raised, zero_read_of, zero_reads_of, skip_refusal, skipped, skip_zeros_of}
use Rattle.reader.specs.History.{Call, peek_by, take_by, read_if_by, zero_skip_by, block_by, Answered, with_seen, outcomes_of, reads_made, answer_by, a_zero_read, byte_taken, step_of, zero_steps, steps_of, Step, zeros_told, counts_for, history_count, step_count}
use Rattle.reader.specs.ByteTally.{CountsAgree, reads_that_took, taken_by_reads, passed_by_reads, ZerosThenNone, SkipTold, AnswerTold}
use Rattle.reader.proofs.state.Refusals.{skip_admits, peek_admitted}
use Rattle.reader.proofs.iterator.ConditionalReads.{read_cases}
use Rattle.reader.proofs.iterator.Zeros.{zero_takes_one, outcomes_back, skip_cases}
use Rattle.reader.proofs.ByteTally.Steps.{moves_clear, zero_step, zero_counts}

-- EACH READ

module _ (m : Reading) (s : List ℕ) (st : State) (r : Reader) where
  abbrev seen : Outcome
  seen = peek_of m s st r

  -- a byte that a read answers is the one that it saw, and in its set
  read_seen_lem : (wanted : ℕ → Bool) (b : ℕ) → (read_if_of m s st r wanted).byte ≡ Some b → (seen.byte ≡ Some b) × (wanted b ≡ true)
  unfolding read_if_of
  read_seen_lem wanted b = go seen.byte refl where
    asked :
        (c : ℕ) (t : Bool) → wanted c ≡ t → seen.byte ≡ Some c → (read_byte_if wanted seen (Some c)).byte ≡ Some b
        → (seen.byte ≡ Some b) × (wanted b ≡ true)
    asked c true t e h = let k : Some c ≡ Some b = rw t at h in let same : c ≡ b = cc in (e ∙ k, rw same at t)
    asked c false t e h = absurd (none-some b (rw t at h))

    go : (o : Option ℕ) → seen.byte ≡ o → (read_byte_if wanted seen o).byte ≡ Some b → (seen.byte ≡ Some b) × (wanted b ≡ true)
    go None e h = absurd (none-some b (sym e ∙ h))
    go (Some c) e h = asked c (wanted c) refl e h

  -- and one that it declines is not
  declined_other : (wanted : ℕ → Bool) (b : ℕ) → (read_if_of m s st r wanted).byte ≡ None → seen.byte ≡ Some b → wanted b ≡ false
  unfolding read_if_of
  declined_other wanted b h e = go (wanted b) refl (rw e at h) where
    go : (t : Bool) → wanted b ≡ t → (read_byte_if wanted seen (Some b)).byte ≡ None → wanted b ≡ false
    go true t k = absurd (none-some b (sym (rw t at k)))
    go false t k = t

  raised_byte : (o : Outcome) (b : Option ℕ) → (raised r o b).byte ≡ o.byte
  raised_byte o None = refl
  raised_byte o (Some b) = refl

  -- a read of a zero skip answers what the read does
  zero_byte : (zero_read_of m s r st).byte ≡ (read_if_of m s st r is_zero).byte
  unfolding zero_read_of
  zero_byte = raised_byte (read_if_of m s st r is_zero) (read_if_of m s st r is_zero).byte

  -- so its byte is a `0`, and what it declines is none
  zero_read : (b : ℕ) → (zero_read_of m s r st).byte ≡ Some b → ((zero_read_of m s r st).byte ≡ Some 48) × (seen.byte ≡ Some 48)
  zero_read b e =
      let read = read_seen_lem is_zero b (sym zero_byte ∙ e) in
      let is_zero_lem : b ≡ 48 = eqb-true b 48 read.1 in
      (e ∙ ap Some is_zero_lem, read.0 ∙ ap Some is_zero_lem)

  other_seen : (zero_read_of m s r st).byte ≡ None → (b : ℕ) → seen.byte ≡ Some b → is_zero b ≡ false
  other_seen e b = declined_other is_zero b (sym zero_byte ∙ e)

  -- from a state that is not refused, it is not refused
  raised_number : (o : Outcome) (b : Option ℕ) → (raised r o b).refusal ≡ o.refusal
  raised_number o None = refl
  raised_number o (Some b) = refl

  zero_clear : refusal_of m s st r ≡ 0 → (zero_read_of m s r st).refusal ≡ 0
  unfolding zero_read_of peeked
  zero_clear clear =
      raised_number (read_if_of m s st r is_zero) (read_if_of m s st r is_zero).byte
      ∙ read_cases m s st r is_zero (λ o. o.refusal ≡ 0) (λ b e. refl) refl (λ e. ap (λ (o : Outcome). o.refusal) (peek_admitted m s st r clear))

-- ALL READS

module _ (m : Reading) (s : List ℕ) (r : Reader) where
  abbrev call : State → Outcome
  call = zero_read_of m s r

  took : (st : State) (b : Option ℕ) → (call st).byte ≡ b → (call st).taken ≡ length (byte_taken b)
  took st b e = zero_counts (λ q. m) s st r ∙ ap (λ (o : Option ℕ). length (byte_taken o)) e

  -- a read that took none is the last one, one that took a byte is not
  last_read : (st : State) (following : List Outcome) → refusal_of m s st r ≡ 0 → (call st).byte ≡ None
      → ZerosThenNone (with_seen m s r st (call st ∷ if_byte (call st).byte following))
  last_read st following clear e =
      subst (λ (b : Option ℕ). ZerosThenNone (with_seen m s r st (call st ∷ if_byte b following))) (sym e)
      (e, took st None e, zero_clear m s st r clear, other_seen m s st r e)

  read_more : (st : State) (b : ℕ) (next : Outcome) (rest : List Outcome) → refusal_of m s st r ≡ 0 → (call st).byte ≡ Some b
      → ZerosThenNone (with_seen m s r (call st).state (next ∷ rest)) → ZerosThenNone (with_seen m s r st (call st ∷ if_byte (call st).byte (next ∷ rest)))
  read_more st b next rest clear e then =
      let zero = zero_read m s st r b e in
      subst (λ (b : Option ℕ). ZerosThenNone (with_seen m s r st (call st ∷ if_byte b (next ∷ rest)))) (sym e)
      (zero.0, took st (Some b) e, zero_clear m s st r clear, zero.1, then)

  -- each took a `0` until one took none, if as many may follow the first as there are bytes left
  reads_end : (n : ℕ) (st : State) → refusal_of m s st r ≡ 0 → length s ≤ st.cursor + n → ZerosThenNone (with_seen m s r st (call st ∷ until_none n call (call st)))
  unfolding until_none
  reads_end zero st clear few = go (call st).byte refl where
    go : (o : Option ℕ) → (call st).byte ≡ o → ZerosThenNone (with_seen m s r st (call st ∷ []))
    go None e = (e, took st None e, zero_clear m s st r clear, other_seen m s st r e)
    go (Some b) e = absurd (omega (arith, (zero_takes_one m s st r b e).inside))
  reads_end (suc n) st clear few = go (call st).byte refl (reads_end n (call st).state (moves_clear (λ q. m) s st _ (call st).state (zero_step (λ q. m) s st r) m.flags r clear)) where
    go :
        (o : Option ℕ) → (call st).byte ≡ o
        → (length s ≤ (call st).state.cursor + n → ZerosThenNone (with_seen m s r (call st).state (call (call st).state ∷ until_none n call (call (call st).state))))
        → ZerosThenNone (with_seen m s r st (call st ∷ if_byte (call st).byte (call (call st).state ∷ until_none n call (call (call st).state))))
    go None e rest = last_read st _ clear e
    go (Some b) e rest = read_more st b _ _ clear e (rest (omega (arith, (zero_takes_one m s st r b e).moves)))

-- THE ANSWER: sums over its reads

sum_taken : (o : Outcome) (rest : List Outcome) → (summed o rest).taken ≡ taken_by_reads (o ∷ rest)
sum_taken o [] = sym (add-zero o.taken)
sum_taken o (next ∷ rest) = ap (λ (n : ℕ). o.taken + n) (sum_taken next rest)

sum_passed : (o : Outcome) (rest : List Outcome) → (summed o rest).passed ≡ passed_by_reads (o ∷ rest)
sum_passed o [] = sym (add-zero o.passed)
sum_passed o (next ∷ rest) = ap (λ (n : ℕ). o.passed + n) (sum_passed next rest)

all_took : (reads : List ReadOutcome) → ZerosThenNone reads → taken_by_reads (outcomes_of reads) ≡ reads_that_took (outcomes_of reads)
all_took [] never = absurd never
all_took (o ∷ []) last = rw (last.0, last.1)
all_took (o ∷ next ∷ rest) zeros = rw (zeros.0, zeros.1, all_took (next ∷ rest) zeros.4)

module _ (m : Reading) (s : List ℕ) (st : State) (r : Reader) where
  sums_told : eqb (skip_refusal m.flags s st r) 0 ≡ true → SkipTold (skipped (repeated (length s) (zero_read_of m s r) st)) (with_seen m s r st (zero_reads_of m s st r))
  unfolding zero_reads_of
  sums_told t =
      let clear = (skip_admits m.flags s st r (eqb-true (skip_refusal m.flags s st r) 0 t)).1 in
      let first = zero_read_of m s r st in
      let rest = until_none (length s) (zero_read_of m s r) first in
      let reads = reads_end m s r (length s) st clear (omega arith) in
      let back = sym (outcomes_back m s r st (first ∷ rest)) in
      let sum = sum_taken first rest ∙ ap taken_by_reads back in
      record {
        zeros = ap Some (sum ∙ all_took (with_seen m s r st (first ∷ rest)) reads);
        taken = sum;
        passed = sum_passed first rest ∙ ap passed_by_reads back;
        reads = reads;
      }

  pub skip_told : (skip_zeros_of m s st r).refusal ≡ 0 → SkipTold (skip_zeros_of m s st r) (reads_made m s st r)
  skip_told =
      skip_cases m s st r (λ o reads. o.refusal ≡ 0 → SkipTold o reads) (λ t clear. sums_told t)
      (λ away clear. absurd (eqb-false (skip_refusal m.flags s st r) 0 away clear))

-- THE COUNT: what a call's steps add to it is what its answer adds

adds_nothing : (c : Bool) (n : ℕ) → n ≡ n + cond c 0 0
adds_nothing true n = omega arith
adds_nothing false n = omega arith

adds_both : (c : Bool) (n a b : ℕ) → n + cond c a 0 + cond c b 0 ≡ n + cond c (a + b) 0
adds_both true n a b = omega arith
adds_both false n a b = omega arith

module _ (m : Reader → Reading) (q r : Reader) where
  reads_count : (reads : List Outcome) (steps : List Step)
      → step_count m q (zero_steps r reads steps) ≡ step_count m q steps + cond (counts_for q r) (reads_that_took reads) 0
  reads_count [] steps = adds_nothing (counts_for q r) (step_count m q steps)
  reads_count (o ∷ reads) steps =
      reads_count reads (step_of r a_zero_read o ∷ steps)
      ∙ adds_both (counts_for q r) (step_count m q steps) (length (byte_taken o.byte)) (reads_that_took reads)

module _ (m : Reader → Reading) (s : List ℕ) (st : State) (earlier : List Answered) (q : Reader) (so_far : step_count m q (steps_of earlier) ≡ history_count m q earlier) where
  -- of a call that is not counted
  uncounted : (r : Reader) → step_count m q (steps_of earlier) + cond (counts_for q r) 0 0 ≡ history_count m q earlier + 0
  uncounted r = sym (adds_nothing (counts_for q r) (step_count m q (steps_of earlier))) ∙ so_far ∙ sym (add-zero (history_count m q earlier))

  skip_agrees : (r : Reader)
      → step_count m q (zero_steps r (outcomes_of (reads_made (m r) s st r)) (steps_of earlier))
      ≡ history_count m q earlier + cond (counts_for q r) (zeros_told (skip_zeros_of (m r) s st r).zeros) 0
  skip_agrees r =
      let by = counts_for q r in
      skip_cases (m r) s st r
      (λ o reads. step_count m q (zero_steps r (outcomes_of reads) (steps_of earlier)) ≡ history_count m q earlier + cond (counts_for q r) (zeros_told o.zeros) 0)
      (λ clear.
      let made = outcomes_of (with_seen (m r) s r st (zero_reads_of (m r) s st r)) in
      reads_count m q r made (steps_of earlier)
      ∙ ap (λ (n : ℕ). n + cond by (reads_that_took made) 0) so_far
      ∙ ap (λ (n : ℕ). history_count m q earlier + cond by n 0) (sym (ap zeros_told (sums_told (m r) s st r clear).zeros)))
      (λ away. so_far ∙ adds_nothing by (history_count m q earlier))

  pub count_agrees : (call : Call)
      → step_count m q (steps_of (answer_by m s st call ∷ earlier)) ≡ history_count m q (answer_by m s st call ∷ earlier)
  count_agrees (peek_by r) = uncounted r
  count_agrees (take_by r) = rw so_far
  count_agrees (read_if_by r wanted) = uncounted r
  count_agrees (zero_skip_by r) = skip_agrees r
  count_agrees (block_by r n) = uncounted r

module _ (m : Reader → Reading) where
  pub answer_told : (s : List ℕ) (st : State) (call : Call) → AnswerTold (answer_by m s st call)
  answer_told s st (peek_by r) = tt
  answer_told s st (take_by r) = tt
  answer_told s st (read_if_by r wanted) = tt
  answer_told s st (zero_skip_by r) = skip_told (m r) s st r
  answer_told s st (block_by r n) = tt

  pub agreed : (history : List Answered) → CountsAgree m history → (r : Reader) → step_count m r (steps_of history) ≡ history_count m r history
  agreed [] agree r = refl
  agreed (a ∷ earlier) agree r = agree.1 r

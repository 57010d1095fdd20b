-- Every call of demand 3 keeps the byte tally, over any reading: one law for each call, and one for them all. Assumes nothing.
use Rattle.std.proofs.Common.{◌≡◌, ℕ, ◌+◌, List, ◌∷◌, length, refl, arith}
use Rattle.reader.specs.declared.state.Reader.{Reader}
use Rattle.reader.specs.declared.state.State.{State}
use Rattle.reader.specs.Reading.{Reading}
use Rattle.reader.specs.State.{Sheet}
use Rattle.reader.specs.ZeroSkip.{zero_reads_of, skip_zeros_of}
use Rattle.reader.specs.History.{Call, peek_by, take_by, read_if_by, zero_skip_by, block_by, Answered, skip_answered, reads_made, answer_by, taken_in, passed_in, returned, Step, with_steps}
use Rattle.reader.proofs.iterator.Zeros.{outcomes_back, skip_cases}
use Rattle.reader.proofs.ByteTally.Peek.{peeks}
use Rattle.reader.proofs.ByteTally.Steps.{Moves, peek_step, take_step, read_step, block_step, take_counts, read_counts, block_counts}
use Rattle.reader.proofs.ByteTally.Invariant.{Tallied, tallied_on, skipping}

module _ (m : Reader → Reading) (s : List ℕ) (sheet : Sheet) (st : State) (steps : List Step) (so_far : Tallied m s sheet st steps) where
  -- what an answer leaves: the tally with its steps, and a cursor moved by its own counts
  pub record Answering (a : Answered) : Type 0 where
    pub tallied : Tallied m s sheet (returned a) (with_steps a steps)
    pub cursor : (returned a).cursor ≡ st.cursor + taken_in a + passed_in a

  -- of an answer that is one step
  one_step : (a : Answered) (e : Step) → Moves m s st e (returned a) → with_steps a steps ≡ e ∷ steps
      → taken_in a ≡ length e.bytes → passed_in a ≡ e.passed → Answering a
  one_step a e moves step taken passed =
      record {
        tallied = rw step (tallied_on m s sheet st steps so_far e (returned a) moves);
        cursor = omega (arith, moves.cursor, taken, passed);
      }

  skip_answers : (r : Reader) → Answering (skip_answered r (skip_zeros_of (m r) s st r) (reads_made (m r) s st r))
  unfolding zero_reads_of
  skip_answers r =
      let skips = skipping m s sheet r (length s) st steps so_far in
      skip_cases (m r) s st r
      (λ o reads. Answering (skip_answered r o reads))
      (λ clear. record { tallied = rw (outcomes_back (m r) s r st (zero_reads_of (m r) s st r)) skips.tallied; cursor = skips.cursor })
      (λ away. record { tallied = so_far; cursor = omega arith })

  pub answering : (call : Call) → Answering (answer_by m s st call)
  answering (peek_by r) = one_step (answer_by m s st (peek_by r)) _ (peek_step m s st r) refl (peeks (m r) s st r).none_taken refl
  answering (take_by r) = one_step (answer_by m s st (take_by r)) _ (take_step m s st r) refl (take_counts m s st r) refl
  answering (read_if_by r wanted) =
      one_step (answer_by m s st (read_if_by r wanted)) _ (read_step m s st r wanted) refl (read_counts m s st r wanted) refl
  answering (zero_skip_by r) = skip_answers r
  answering (block_by r n) = one_step (answer_by m s st (block_by r n)) _ (block_step m s st r n) refl (block_counts m s st r n) refl

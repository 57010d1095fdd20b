-- The byte tally over any reading: each step keeps it, and so does each call, a zero skip with all its reads. Assumes nothing.
use Rattle.std.proofs.Common.{◌≡◌, ℕ, zero, suc, ◌+◌, ◌<◌, ◌≤◌, List, [], ◌∷◌, length, take, Some, None, Option, refl, ap, ◌∙◌, append_assoc, arith, length-take-le, take-add}
use Rattle.reader.specs.declared.state.Reader.{Reader}
use Rattle.reader.specs.declared.state.State.{State}
use Rattle.reader.specs.Reading.{Reading}
use Rattle.reader.specs.State.{Sheet, sheet_of, count_of, count_sum}
use Rattle.reader.specs.Answer.{Outcome}
use Rattle.reader.specs.Repeat.{summed, until_none}
use Rattle.reader.specs.ZeroSkip.{zero_read_of}
use Rattle.reader.specs.History.{a_zero_read, Step, step_of, zero_steps, joined, step_count}
use Rattle.reader.specs.ByteTally.{RunAllowed, RunsAllowed}
use Rattle.reader.proofs.ByteTally.Steps.{Moves, zero_step, zero_counts}

-- A state with the steps that led to it from a fresh one.
pub record Tallied (m : Reader → Reading) (s : List ℕ) (sheet : Sheet) (st : State) (steps : List Step) : Type 0 where
  pub bytes : joined m steps ≡ take st.cursor s
  pub runs : RunsAllowed m s steps
  pub counts : (r : Reader) → count_of st r ≡ step_count m r steps
  pub inside : st.cursor ≤ length s
  pub sums : count_sum st ≤ st.cursor
  pub word : sheet_of st ≡ sheet

module _ (m : Reader → Reading) (s : List ℕ) (sheet : Sheet) where
  module _ (st : State) (steps : List Step) (so_far : Tallied m s sheet st steps) (e : Step) (then : State) (moves : Moves m s st e then) where
    place : length (joined m steps) ≡ st.cursor
    place = ap length so_far.bytes ∙ length-take-le st.cursor s so_far.inside

    allowed : 0 < e.passed → RunAllowed m s e steps
    allowed h = record { separators = rw place moves.only; rule = rw (place, ← so_far.counts e.reader) (moves.by_rule h) }

    pub tallied_on : Tallied m s sheet then (e ∷ steps)
    tallied_on =
        record {
          bytes =
              rw (
                so_far.bytes,
                moves.cursor,
                take-add (st.cursor + e.passed) (length e.bytes) s,
                take-add st.cursor e.passed s,
                moves.only,
                moves.bytes,
                append_assoc,
              );
          runs = (so_far.runs, allowed);
          counts = λ r. moves.counts r ∙ rw (so_far.counts r);
          inside = moves.inside so_far.inside;
          sums = omega (arith, so_far.sums, moves.sums, moves.cursor);
          word = moves.word ∙ so_far.word;
        }

  -- THE READS OF A ZERO SKIP
  module _ (r : Reader) where
    abbrev call : State → Outcome
    call = zero_read_of (m r) s r

    -- the state after a first read and those that follow it, with the steps that they add, and the sums of what they took and passed
    pub record Skipping (st : State) (steps : List Step) (rest : List Outcome) : Type 0 where
      pub tallied : Tallied m s sheet (summed (call st) rest).state (zero_steps r (call st ∷ rest) steps)
      pub cursor : (summed (call st) rest).state.cursor ≡ st.cursor + (summed (call st) rest).taken + (summed (call st) rest).passed

    module _ (st : State) (steps : List Step) (so_far : Tallied m s sheet st steps) where
      one : Tallied m s sheet (call st).state (step_of r a_zero_read (call st) ∷ steps)
      one = tallied_on st steps so_far (step_of r a_zero_read (call st)) (call st).state (zero_step m s st r)

      moved : (call st).state.cursor ≡ st.cursor + (call st).taken + (call st).passed
      moved = omega (arith, (zero_step m s st r).cursor, zero_counts m s st r)

      last : Skipping st steps []
      last = record { tallied = one; cursor = moved }

      more : (rest : List Outcome)
          → Skipping (call st).state (step_of r a_zero_read (call st) ∷ steps) rest
          → Skipping st steps (call (call st).state ∷ rest)
      more rest then = record { tallied = then.tallied; cursor = omega (arith, moved, then.cursor) }

    pub skipping : (n : ℕ) (st : State) (steps : List Step) → Tallied m s sheet st steps → Skipping st steps (until_none n call (call st))
    unfolding until_none
    skipping zero st steps so_far = last st steps so_far
    skipping (suc n) st steps so_far = go (call st).byte refl (skipping n (call st).state (step_of r a_zero_read (call st) ∷ steps) (one st steps so_far)) where
      go :
          (b : Option ℕ) → (call st).byte ≡ b
          → Skipping (call st).state (step_of r a_zero_read (call st) ∷ steps) (until_none n call (call (call st).state))
          → Skipping st steps (until_none (suc n) call (call st))
      go None e then = rw e (last st steps so_far)
      go (Some b) e then = rw e (more st steps so_far (until_none n call (call (call st).state)) then)

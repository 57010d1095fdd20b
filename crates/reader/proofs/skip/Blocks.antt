-- The block take: what it answers where it is refused and where it is not, and which part of the buffer its block is. Assumes nothing.
use Rattle.std.proofs.Common.{◌≡◌, ℕ, ◌+◌, ◌-◌, ◌≤◌, min, Bool, true, false, eqb, List, [], length, take, drop, Some, None, Option, Result, sym, refl, ap, ◌∙◌, arith, eqb-true}
use Rattle.std.specs.Borrow.{Bor}
use Rattle.std.proofs.lemmas.Option.{none-some}
use Rattle.reader.specs.declared.state.Reader.{Reader}
use Rattle.reader.specs.declared.state.State.{State}
use Rattle.reader.specs.declared.state.Refusal.{Refusal}
use Rattle.reader.specs.declared.answer.Answer.{Answer}
use Rattle.reader.specs.State.{moved_to}
use Rattle.reader.specs.Reading.{Reading, reading_for, has_any_flag}
use Rattle.reader.specs.Answer.{number_of, found_in, BlockOutcome, block_outcome_of}
use Rattle.reader.specs.Block.{block_refusal, refused_block, block_from, take_n_of, take_n_part, part_start, BlockPart}
use Rattle.reader.proofs.state.Refusals.{block_within, refusal_tells}

module _ (m : Reading) (s : List ℕ) (st : State) (r : Reader) (n : ℕ) where
  pub block_admitted : block_refusal s st r ≡ 0 → block_from m.flags s st n ≡ take_n_of m s st r n
  unfolding take_n_of
  block_admitted clear = rw clear

  pub block_refused : (e : Refusal) → number_of e ≡ block_refusal s st r → refused_block (number_of e) st ≡ take_n_of m s st r n
  unfolding take_n_of
  block_refused e number = rw (sym number, refusal_tells e)

  -- a block of k bytes moves the cursor past them, within the buffer
  abbrev Inside : ℕ → Type 0
  Inside k = ((take_n_of m s st r n).state.cursor ≡ st.cursor + k) × (st.cursor + k ≤ length s)

  block_inside : (k : ℕ) → (take_n_of m s st r n).block ≡ Some k → Inside k
  unfolding take_n_of moved_to
  block_inside k e = go (eqb (block_refusal s st r) 0) (has_any_flag m.flags) refl refl e where
    go : (t u : Bool) → eqb (block_refusal s st r) 0 ≡ t → has_any_flag m.flags ≡ u → (take_n_of m s st r n).block ≡ Some k → Inside k
    go true false t u h =
        let same : min n (length s - st.cursor) ≡ k = cc (rw (t, u) at h) in
        let inside = block_within s st r (eqb-true (block_refusal s st r) 0 t) in
        rw (t, u) (rw same, omega (arith, inside, same))
    go true true t u h = absurd (none-some k (rw (t, u) at h))
    go false u t _ h = absurd (none-some k (rw t at h))

  -- of an answer: its block lies between the two cursors, and is the part of the definition
  module _ (a : Answer (Result (Option ℕ) Refusal)) (e : block_outcome_of a ≡ take_n_of m s st r n) where
    bytes : found_in a.report.found ≡ (take_n_of m s st r n).block
    bytes = ap (λ (o : BlockOutcome). o.block) e

    module _ (k : ℕ) (taken : found_in a.report.found ≡ Some k) where
      answered : (take_n_of m s st r n).block ≡ Some k
      answered = sym bytes ∙ taken

      moves : (a.state.cursor ≡ st.cursor + k) × (st.cursor + k ≤ length s)
      moves = rw (sym (ap (λ (o : BlockOutcome). o.state) e)) at (block_inside k answered)

      pub part_within : (st.cursor ≤ a.state.cursor) × (a.state.cursor ≤ length s)
      part_within = (omega (arith, moves.0), omega (arith, moves.0, moves.1))

      part_taken : take (a.state.cursor - st.cursor) (drop st.cursor s) ≡ take_n_part m s st r n
      unfolding take_n_part
      part_taken =
          let same : a.state.cursor - st.cursor ≡ k = omega (arith, moves.0) in
          rw (answered, same)

      part_start_lem : st.cursor ≡ part_start st.cursor (take_n_of m s st r n).block
      part_start_lem = rw answered

    module _ (nothing : found_in a.report.found ≡ None) where
      none_part : [] ≡ take_n_part m s st r n
      unfolding take_n_part
      none_part = rw (sym bytes, nothing)

      none_start : 0 ≡ part_start st.cursor (take_n_of m s st r n).block
      none_start = rw (sym bytes, nothing)

-- a sub-slice
abbrev pub sub : Bor (List ℕ) → ℕ → List ℕ → Bor (List ℕ)
sub lent start contents = record { ref_ptr = (lent.ref_ptr.0, start + lent.ref_ptr.1); now = contents }

-- the lent slice between the two cursors is the part of a block; where there is none, its empty part at the start is
module _ (lent : Bor (List ℕ)) (st : State) (r : Reader) (n : ℕ) (a : Answer (Result (Option ℕ) Refusal))
    (e : block_outcome_of a ≡ take_n_of (reading_for st r) lent.now st r n) where
  pub part_of_block : (k : ℕ) → found_in a.report.found ≡ Some k → BlockPart lent st r n (sub lent st.cursor (take (a.state.cursor - st.cursor) (drop st.cursor lent.now)))
  part_of_block k taken =
      let m = reading_for st r in
      record {
        block = refl;
        offset = ap (λ (p : ℕ). p + lent.ref_ptr.1) (part_start_lem m lent.now st r n a e k taken);
        bytes = part_taken m lent.now st r n a e k taken;
      }

  pub part_of_none : found_in a.report.found ≡ None → BlockPart lent st r n (sub lent 0 [])
  part_of_none nothing =
      let m = reading_for st r in
      record {
        block = refl;
        offset = ap (λ (p : ℕ). p + lent.ref_ptr.1) (none_start m lent.now st r n a e nothing);
        bytes = none_part m lent.now st r n a e nothing;
      }

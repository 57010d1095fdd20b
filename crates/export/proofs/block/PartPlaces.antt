-- The place and the length that `pawhetino_take_n` writes are those of the block: the bytes of the buffer there are the reader's part, and
-- none where there is no block. Assumes nothing.
use Rattle.std.specs.Prelude.{Option, Some, None}
use mathlib.Core.Path.{◌≡◌, refl}
use mathlib.Core.Bool.{Bool, true, false}
use mathlib.Core.List.{List, []}
use Prim.Native.Nat.{ℕ}
use lib.Dec.{eqb}
use lib.ListN.{take, drop, get_or}
use Rattle.reader.specs.declared.state.Reader.{Reader}
use Rattle.reader.specs.declared.state.State.{State}
use Rattle.reader.specs.Reading.{Reading, reading_for, has_any_flag}
use Rattle.reader.specs.Block.{block_refusal, take_n_of, take_n_part}
use Rattle.export.specs.State.{state_in, reader_on, by_reader}
use Rattle.export.specs.Answer.{block_words}
use Rattle.export.specs.Calls.{block_taken_by}

-- the bytes of a buffer at the place and of the length that an answer's words tell
abbrev pub bytes_at : List ℕ → List ℕ → List ℕ
bytes_at s answer = take (get_or answer 2 0) (drop (get_or answer 1 0) s)

-- the part that the reader takes; a byte that names none takes none
unfoldable pub part_taken_by : ℕ → List ℕ → List ℕ → ℕ → List ℕ
part_taken_by n w s k = by_reader (reader_on n (get_or w 7 0)) [] (λ r. take_n_part (reading_for (state_in w) r) s (state_in w) r k)

reader_part : (m : Reading) (s : List ℕ) (st : State) (r : Reader) (k : ℕ) (old : List ℕ)
    → bytes_at s (block_words old st.cursor (take_n_of m s st r k)) ≡ take_n_part m s st r k
unfolding take_n_of take_n_part
reader_part m s st r k old = go (eqb (block_refusal s st r) 0) (has_any_flag m.flags) refl refl where
  go : (t u : Bool) → eqb (block_refusal s st r) 0 ≡ t → has_any_flag m.flags ≡ u
      → bytes_at s (block_words old st.cursor (take_n_of m s st r k)) ≡ take_n_part m s st r k
  go true true e h = rw (e, h)
  go true false e h = rw (e, h)
  go false u e h = rw e

-- for every reader byte, state, buffer and n, whatever the answer's words were before
pub part_told : (n : ℕ) (w s : List ℕ) (k : ℕ) (old : List ℕ)
    → bytes_at s (block_words old (state_in w).cursor (block_taken_by n w s k)) ≡ part_taken_by n w s k
unfolding block_taken_by part_taken_by
part_told n w s k old = go (reader_on n (get_or w 7 0)) refl where
  go : (who : Option Reader) → reader_on n (get_or w 7 0) ≡ who
      → bytes_at s (block_words old (state_in w).cursor (block_taken_by n w s k)) ≡ part_taken_by n w s k
  go None e = rw e
  go (Some r) e = rw e (reader_part (reading_for (state_in w) r) s (state_in w) r k old)

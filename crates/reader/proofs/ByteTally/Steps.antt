-- Each call moves the state by its step of the history: over any reading, refused calls included. Demand 1 of takes to the end goes by
-- it too. Assumes nothing.
use Rattle.std.proofs.Common.{◌≡◌, ℕ, ◌+◌, ◌-◌, ◌<◌, ◌≤◌, min, Bool, true, false, cond, ◌&&◌, eqb, List, [], ◌∷◌, length, take, drop, replicate, slice_get, Some, None, Option, sym, refl, ◌∙◌, add-zero, arith, length-drop, length-take-le}
use Rattle.reader.specs.declared.state.Reader.{Reader}
use Rattle.reader.specs.declared.state.State.{State}
use Rattle.reader.specs.declared.rule.Flags.{Flags}
use Rattle.reader.specs.Reading.{Reading, has_any_flag, may_pass}
use Rattle.reader.specs.State.{sheet_of, count_of, count_sum, moved_to, counted_by}
use Rattle.reader.specs.Answer.{Outcome}
use Rattle.reader.specs.Calls.{refusal_with, peek_of, taken_from, take_byte, next_of, read_if_of}
use Rattle.reader.specs.ZeroSkip.{is_zero, raised, zero_read_of}
use Rattle.reader.specs.Block.{block_refusal, take_n_of, take_n_part}
use Rattle.reader.specs.History.{Kind, a_peek, a_take, a_read, a_zero_read, a_block, Step, byte_taken, step_of, digits_counted, counts_for}
use Rattle.reader.proofs.state.Refusals.{within, still_admitted}
use Rattle.reader.proofs.iterator.ConditionalReads.{read_cases}
use Rattle.reader.proofs.passing.Places.{byte_inside}
use Rattle.reader.proofs.state.Updates.{counted_stays, counted_sheet, count_moved, counted_adds, counted_sum}
use Rattle.reader.proofs.ByteTally.Peek.{Peeks, peeks}

-- How a step stands to the state before it and the state after it.
pub record Moves (m : Reader → Reading) (s : List ℕ) (st : State) (e : Step) (then : State) : Type 0 where
  pub cursor : then.cursor ≡ st.cursor + e.passed + length e.bytes
  pub bytes : take (length e.bytes) (drop (st.cursor + e.passed) s) ≡ e.bytes
  pub only : take e.passed (drop st.cursor s) ≡ replicate e.passed (m e.reader).separator
  pub by_rule : 0 < e.passed → may_pass (m e.reader) s (eqb (count_of st e.reader) 0) st.cursor ≡ true
  pub counts : (q : Reader) → count_of then q ≡ count_of st q + cond (counts_for q e.reader) (digits_counted (m e.reader) e.kind e.bytes) 0
  pub sums : count_sum then ≤ count_sum st + length e.bytes
  pub inside : st.cursor ≤ length s → then.cursor ≤ length s
  pub word : sheet_of then ≡ sheet_of st

-- what is not refused before a step is not refused behind it
pub moves_clear : (m : Reader → Reading) (s : List ℕ) (st : State) (e : Step) (then : State) → Moves m s st e then
    → (f : Flags) (r : Reader) → refusal_with f s st r ≡ 0 → refusal_with f s then r ≡ 0
moves_clear m s st e then moves f r clear =
    let w = within f s st r clear in
    still_admitted f s st then r (moves.inside w.0) (omega (arith, moves.sums, moves.cursor, w.1)) clear

-- COUNTS

cond_none : (b : Bool) → ◌≡◌ {A = ℕ} (cond b 0 0) 0
cond_none true = refl
cond_none false = refl

-- without bytes a step adds to no count
counted_none : (m : Reading) (kind : Kind) → digits_counted m kind [] ≡ 0
counted_none m a_peek = refl
counted_none m a_take = cond_none (has_any_flag m.flags)
counted_none m a_read = refl
counted_none m a_zero_read = refl
counted_none m a_block = refl

-- A state behind one byte that the reader r took as a step of this kind.
record Behind (m : Reader → Reading) (st : State) (r : Reader) (kind : Kind) (b : ℕ) (then : State) : Type 0 where
  cursor : then.cursor ≡ st.cursor + 1
  counts : (q : Reader) → count_of then q ≡ count_of st q + cond (counts_for q r) (digits_counted (m r) kind (b ∷ [])) 0
  sums : count_sum then ≤ count_sum st + 1
  word : sheet_of then ≡ sheet_of st

module _ (m : Reader → Reading) (st : State) (r : Reader) (b : ℕ) where
  abbrev next : State
  next = moved_to st (st.cursor + 1)

  -- the byte is counted, or it is not
  counted_behind : (kind : Kind) → digits_counted (m r) kind (b ∷ []) ≡ 1 → Behind m st r kind b (counted_by next r)
  unfolding moved_to
  counted_behind kind one =
      record {
        cursor = counted_stays next r;
        counts = λ q. counted_adds next r q ∙ rw (one, count_moved st (st.cursor + 1) q);
        sums = counted_sum next r;
        word = counted_sheet next r;
      }

  moved_behind : (kind : Kind) → digits_counted (m r) kind (b ∷ []) ≡ 0 → Behind m st r kind b next
  unfolding moved_to
  moved_behind kind nothing =
      record {
        cursor = refl;
        counts = λ q. rw (nothing, cond_none (counts_for q r), count_moved st (st.cursor + 1) q) (sym (add-zero (count_of st q)));
        sums = omega arith;
        word = refl;
      }

  -- a take counts a digit if the reader has any flag
  taken_behind : Behind m st r a_take b (taken_from (m r) r b st)
  taken_behind = go (has_any_flag (m r).flags) ((m r).digit b) refl refl where
    go : (t d : Bool) → has_any_flag (m r).flags ≡ t → (m r).digit b ≡ d → Behind m st r a_take b (cond (t && d) (counted_by next r) next)
    go true true t d = counted_behind a_take (rw (t, d))
    go true false t d = moved_behind a_take (rw (t, d))
    go false d t e = moved_behind a_take (rw t)

-- STEPS

first_byte : (l : List ℕ) (b : ℕ) → slice_get l 0 ≡ Some b → take 1 l ≡ b ∷ []
first_byte [] b e = absurd (cc)
first_byte (c ∷ l) b e = let same : c ≡ b = cc in rw same

module _ (m : Reader → Reading) (s : List ℕ) (st : State) (r : Reader) (kind : Kind) (o : Outcome) (seen : Peeks (m r) s st r o) where
  -- nothing was taken
  stays : Moves m s st (record { reader = r; kind = kind; passed = o.passed; bytes = [] }) o.state
  unfolding moved_to
  stays =
      record {
        cursor = rw seen.moves (sym (add-zero (st.cursor + o.passed)));
        bytes = refl;
        only = seen.only;
        by_rule = seen.by_rule;
        counts = λ q.
            rw (seen.moves, counted_none (m r) kind, cond_none (counts_for q r), count_moved st (st.cursor + o.passed) q)
            (sym (add-zero (count_of st q)));
        sums = rw seen.moves (omega arith);
        inside = λ h. rw seen.moves (seen.inside h);
        word = rw seen.moves;
      }

  -- the byte that was seen was taken
  takes_one : (b : ℕ) (then : State) → o.byte ≡ Some b → Behind m o.state r kind b then
      → Moves m s st (record { reader = r; kind = kind; passed = o.passed; bytes = b ∷ [] }) then
  unfolding moved_to
  takes_one b then e behind =
      let at = seen.sees b e in
      let place : o.state.cursor ≡ st.cursor + o.passed = rw seen.moves in
      let sum : count_sum o.state ≡ count_sum st = rw seen.moves in
      record {
        cursor = behind.cursor ∙ rw place;
        bytes = first_byte (drop (st.cursor + o.passed) s) b at;
        only = seen.only;
        by_rule = seen.by_rule;
        counts = λ q. behind.counts q ∙ rw (seen.moves, count_moved st (st.cursor + o.passed) q);
        sums = omega (arith, behind.sums, sum);
        inside = λ h. omega (arith, behind.cursor, place, byte_inside s (st.cursor + o.passed) b at);
        word = behind.word ∙ rw seen.moves;
      }

module _ (m : Reader → Reading) (s : List ℕ) (st : State) (r : Reader) where
  abbrev seen : Outcome
  seen = peek_of (m r) s st r

  view : Peeks (m r) s st r seen
  view = peeks (m r) s st r

  pub peek_step : Moves m s st (record { reader = r; kind = a_peek; passed = seen.passed; bytes = [] }) seen.state
  peek_step = stays m s st r a_peek seen view

  pub take_step : Moves m s st (step_of r a_take (next_of (m r) s st r)) (next_of (m r) s st r).state
  unfolding next_of
  take_step = go seen.byte refl where
    go : (b : Option ℕ) → seen.byte ≡ b → Moves m s st (step_of r a_take (take_byte (m r) r seen b)) (take_byte (m r) r seen b).state
    go None e = rw e (stays m s st r a_take seen view)
    go (Some b) e = takes_one m s st r a_take seen view b (taken_from (m r) r b seen.state) e (taken_behind m seen.state r b)

  pub read_step : (wanted : ℕ → Bool) → Moves m s st (step_of r a_read (read_if_of (m r) s st r wanted)) (read_if_of (m r) s st r wanted).state
  read_step wanted =
      read_cases (m r) s st r wanted
      (λ o. Moves m s st (step_of r a_read o) o.state)
      (λ b e. takes_one m s st r a_read seen view b (moved_to seen.state (seen.state.cursor + 1)) e (moved_behind m seen.state r b a_read refl))
      (stays m s st r a_read seen view)
      (λ e. rw e (stays m s st r a_read seen view))

  -- a read of a zero skip raises the count
  pub zero_step : Moves m s st (step_of r a_zero_read (zero_read_of (m r) s r st)) (zero_read_of (m r) s r st).state
  unfolding zero_read_of
  zero_step =
      read_cases (m r) s st r is_zero
      (λ o. Moves m s st (step_of r a_zero_read (raised r o o.byte)) (raised r o o.byte).state)
      (λ b e. takes_one m s st r a_zero_read seen view b (counted_by (moved_to seen.state (seen.state.cursor + 1)) r) e (counted_behind m seen.state r b a_zero_read refl))
      (stays m s st r a_zero_read seen view)
      (λ e. rw e (stays m s st r a_zero_read seen view))

  -- as many bytes are taken as are answered
  pub take_counts : (next_of (m r) s st r).taken ≡ length (byte_taken (next_of (m r) s st r).byte)
  unfolding next_of
  take_counts = go seen.byte refl where
    go : (b : Option ℕ) → seen.byte ≡ b → (take_byte (m r) r seen b).taken ≡ length (byte_taken (take_byte (m r) r seen b).byte)
    go None e = rw e view.none_taken
    go (Some b) e = refl

  pub read_counts : (wanted : ℕ → Bool) → (read_if_of (m r) s st r wanted).taken ≡ length (byte_taken (read_if_of (m r) s st r wanted).byte)
  read_counts wanted = read_cases (m r) s st r wanted (λ o. o.taken ≡ length (byte_taken o.byte)) (λ b e. refl) refl (λ e. rw e view.none_taken)

  pub zero_counts : (zero_read_of (m r) s r st).taken ≡ length (byte_taken (zero_read_of (m r) s r st).byte)
  unfolding zero_read_of
  zero_counts =
      read_cases (m r) s st r is_zero
      (λ o. (raised r o o.byte).taken ≡ length (byte_taken (raised r o o.byte).byte))
      (λ b e. refl)
      refl
      (λ e. rw e view.none_taken)

  -- A call that does nothing
  nothing : (kind : Kind) → Moves m s st (record { reader = r; kind = kind; passed = 0; bytes = [] }) st
  nothing kind =
      record {
        cursor = omega arith;
        bytes = refl;
        only = refl;
        by_rule = λ h. absurd (omega arith);
        counts = λ q. rw (counted_none (m r) kind, cond_none (counts_for q r)) (sym (add-zero (count_of st q)));
        sums = omega arith;
        inside = λ h. h;
        word = refl;
      }

  -- a block of the next k bytes
  block_of : (k : ℕ) → k ≤ length s - st.cursor
      → Moves m s st (record { reader = r; kind = a_block; passed = 0; bytes = take k (drop st.cursor s) }) (moved_to st (st.cursor + k))
  unfolding moved_to
  block_of k fits =
      let size : length (take k (drop st.cursor s)) ≡ k = length-take-le k (drop st.cursor s) (omega (arith, length-drop st.cursor s)) in
      record {
        cursor = rw size (omega arith);
        bytes = rw (size, add-zero st.cursor);
        only = refl;
        by_rule = λ h. absurd (omega arith);
        counts = λ q. rw (cond_none (counts_for q r), count_moved st (st.cursor + k) q) (sym (add-zero (count_of st q)));
        sums = omega arith;
        inside = λ h. omega arith;
        word = refl;
      }

  abbrev left : ℕ → ℕ
  left n = min n (length s - st.cursor)

  pub block_step : (n : ℕ)
      → Moves m s st (record { reader = r; kind = a_block; passed = (take_n_of (m r) s st r n).passed; bytes = take_n_part (m r) s st r n }) (take_n_of (m r) s st r n).state
  unfolding take_n_of take_n_part
  block_step n = go (eqb (block_refusal s st r) 0) (has_any_flag (m r).flags) refl refl where
    go :
        (t a : Bool) → eqb (block_refusal s st r) 0 ≡ t → has_any_flag (m r).flags ≡ a
        → Moves m s st (record { reader = r; kind = a_block; passed = (take_n_of (m r) s st r n).passed; bytes = take_n_part (m r) s st r n }) (take_n_of (m r) s st r n).state
    go true true t a = rw (t, a) (nothing a_block)
    go true false t a = rw (t, a) (block_of (left n) (omega arith))
    go false a t e = rw t (nothing a_block)

  pub block_counts : (n : ℕ) → (take_n_of (m r) s st r n).taken ≡ length (take_n_part (m r) s st r n)
  unfolding take_n_of take_n_part
  block_counts n = go (eqb (block_refusal s st r) 0) (has_any_flag (m r).flags) refl refl where
    go :
        (t a : Bool) → eqb (block_refusal s st r) 0 ≡ t → has_any_flag (m r).flags ≡ a
        → (take_n_of (m r) s st r n).taken ≡ length (take_n_part (m r) s st r n)
    go true true t a = rw (t, a)
    go true false t a = rw (t, a) (sym (length-take-le (left n) (drop st.cursor s) (omega (arith, length-drop st.cursor s))))
    go false a t e = rw t

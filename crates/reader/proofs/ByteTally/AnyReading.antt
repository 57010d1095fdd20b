-- Demand 3 over any reading that settles: the byte tally of every list of calls. Assumes nothing.
use Rattle.std.proofs.Common.{◌≡◌, ℕ, ◌+◌, List, [], ◌∷◌, ◌++◌, sym, refl, ap, ◌∙◌, subst, add-zero, arith}
use Rattle.reader.specs.declared.state.Reader.{Reader}
use Rattle.reader.specs.declared.state.Reader.TheVariants.{Integer, Fraction, Exponent, Special}
use Rattle.reader.specs.declared.state.State.{State}
use Rattle.reader.specs.Reading.{Reading}
use Rattle.reader.specs.State.{Sheet, sheet_of, fresh_on, count_of, moved_to}
use Rattle.reader.specs.Calls.{peek_of, next_of, read_if_of}
use Rattle.reader.specs.History.{Call, peek_by, take_by, read_if_by, zero_skip_by, block_by, Answered, take_answered, read_answered, answer_by, answer_to, taken_in, passed_in, returned, shown_in, seen_in, Trace, trace_from, with_answer, trace_of, total_of, steps_of}
use Rattle.reader.specs.ByteTally.{CountsAgree, SkipsTold, WordKept, reader_of, Preceded, peek_before, PeekChangesNothing, trace_fresh, ByteTally}
use Rattle.reader.proofs.ByteTally.Settling.{Settles}
use Rattle.reader.proofs.ByteTally.Peek.{peeks}
use Rattle.reader.proofs.ByteTally.InsertedPeek.{without_passed, take_after_peek, read_sees_same, take_passes, read_passes, zeros_same, state_same, passed_adds, skip_clear}
use Rattle.reader.proofs.ByteTally.Invariant.{Tallied}
use Rattle.reader.proofs.ByteTally.Calls.{answering}
use Rattle.reader.proofs.ByteTally.ZeroSkips.{count_agrees, answer_told, agreed}

-- LISTS OF CALLS

module _ (m : Sheet → Reader → Reading) (s : List ℕ) (sheet : Sheet) where
  -- what holds wherever a list has come to
  pub record Kept (w : Trace) : Type 0 where
    pub tallied : Tallied (m sheet) s sheet w.state (steps_of w.history)
    pub cursor : w.state.cursor ≡ total_of taken_in w.history + total_of passed_in w.history
    pub agree : CountsAgree (m sheet) w.history
    pub skips : SkipsTold w.history
    pub word : WordKept sheet w.history

  pub kept_fresh : Kept (trace_from (fresh_on sheet))
  unfolding count_of
  kept_fresh =
      record {
        tallied = record { bytes = refl; runs = tt; counts = nothing_counted; inside = omega arith; sums = omega arith; word = refl };
        cursor = refl;
        agree = tt;
        skips = tt;
        word = tt;
      }
    where
      nothing_counted : (r : Reader) → count_of (fresh_on sheet) r ≡ 0
      nothing_counted Integer = refl
      nothing_counted Fraction = refl
      nothing_counted Exponent = refl
      nothing_counted Special = refl

  -- the state's sheet is that of the list
  pub own_word : (w : Trace) → Kept w → (call : Call) → answer_to m s w.state call ≡ answer_by (m sheet) s w.state call
  own_word w so_far call = ap (λ (g : Sheet). answer_by (m g) s w.state call) so_far.tallied.word

  pub kept_on : (w : Trace) → Kept w → (call : Call) → Kept (with_answer w (answer_to m s w.state call))
  kept_on w so_far call =
      let a = answer_by (m sheet) s w.state call in
      let answer = answering (m sheet) s sheet w.state (steps_of w.history) so_far.tallied call in
      let kept : Kept (with_answer w a) =
      record {
        tallied = answer.tallied;
        cursor = omega (arith, answer.cursor, so_far.cursor);
        agree = (so_far.agree, λ r. count_agrees (m sheet) s w.state w.history r (agreed (m sheet) w.history so_far.agree r) call);
        skips = (so_far.skips, answer_told (m sheet) s w.state call);
        word = (so_far.word, answer.tallied.word);
      } in
      subst (λ (b : Answered). Kept (with_answer w b)) (sym (own_word w so_far call)) kept

  pub kept_all : (calls : List Call) (w : Trace) → Kept w → Kept (trace_of m s w calls)
  kept_all [] w so_far = so_far
  kept_all (call ∷ rest) w so_far = kept_all rest (with_answer w (answer_to m s w.state call)) (kept_on w so_far call)

  pub kept : (calls : List Call) → Kept (trace_fresh m s sheet calls)
  kept calls = kept_all calls (trace_from (fresh_on sheet)) kept_fresh

-- THE INSERTED PEEK

module _ (m : Sheet → Reader → Reading) (s : List ℕ) (st : State) (law : (r : Reader) → Settles (m (sheet_of st) r)) where
  -- a peek returns the sheet, so the call after it is by the same reading
  word_seen : (call : Call) → sheet_of (returned (peek_before m s st call)) ≡ sheet_of st
  unfolding moved_to
  word_seen call = rw (peeks (m (sheet_of st) (reader_of call)) s st (reader_of call)).moves

  after_peek : (call : Call)
      → answer_to m s (returned (peek_before m s st call)) call ≡ answer_by (m (sheet_of st)) s (returned (peek_before m s st call)) call
  after_peek call = ap (λ (g : Sheet). answer_by (m g) s (returned (peek_before m s st call)) call) (word_seen call)

  -- from an answer after the peek that shows and has seen the same and returns the same state
  changes_nothing : (call : Call) (a : Answered) → answer_by (m (sheet_of st)) s (returned (peek_before m s st call)) call ≡ a
      → shown_in a ≡ shown_in (answer_to m s st call) → seen_in a ≡ seen_in (answer_to m s st call) → returned a ≡ returned (answer_to m s st call)
      → passed_in (peek_before m s st call) + passed_in a ≡ passed_in (answer_to m s st call)
      → PeekChangesNothing m s st call
  changes_nothing call a is shown seen state passed =
      let same = after_peek call ∙ is in
      let to = ap returned same ∙ state in
      record {
        shown = ap shown_in same ∙ shown;
        seen = ap seen_in same ∙ seen;
        state = to;
        rest = λ calls. ap (λ (t : State). trace_of m s (trace_from t) calls) to;
        passed = ap (λ (b : Answered). passed_in (peek_before m s st call) + passed_in b) same ∙ passed;
      }

  pub peek_changes_nothing : (call : Call) → Preceded m s st call → PeekChangesNothing m s st call
  peek_changes_nothing (peek_by r) never = absurd never
  peek_changes_nothing (take_by r) allowed =
      let by = m (sheet_of st) r in
      changes_nothing (take_by r) (take_answered r (without_passed (next_of by s st r))) (ap (take_answered r) (take_after_peek by (law r) s st r)) refl refl refl
      (rw (take_passes by (law r) s st r) (add-zero (peek_of by s st r).passed))
  peek_changes_nothing (read_if_by r wanted) allowed =
      let by = m (sheet_of st) r in
      changes_nothing (read_if_by r wanted) (read_answered r (record { outcome = without_passed (read_if_of by s st r wanted); seen = (peek_of by s st r).byte }))
      (ap (read_answered r) (read_sees_same by (law r) s st r wanted)) refl refl refl
      (rw (read_passes by (law r) s st r wanted) (add-zero (peek_of by s st r).passed))
  peek_changes_nothing (zero_skip_by r) clear =
      let by = m (sheet_of st) r in
      let open-to = skip_clear by (law r) s st r clear in
      changes_nothing (zero_skip_by r) _ refl
      (zeros_same by (law r) s st r open-to) refl (state_same by (law r) s st r open-to) (passed_adds by (law r) s st r open-to)
  peek_changes_nothing (block_by r n) never = absurd never

-- a list of calls goes on from where its first part has come to, and from there by the state alone
module _ (m : Sheet → Reader → Reading) (s : List ℕ) where
  pub run_append : (a b : List Call) (w : Trace) → trace_of m s w (a ++ b) ≡ trace_of m s (trace_of m s w a) b
  run_append [] b w = refl
  run_append (call ∷ a) b w = run_append a b (with_answer w (answer_to m s w.state call))

  run_state : (calls : List Call) (v w : Trace) → v.state ≡ w.state → (trace_of m s v calls).state ≡ (trace_of m s w calls).state
  run_state [] v w same = same
  run_state (call ∷ rest) v w same =
      run_state rest (with_answer v (answer_to m s v.state call)) (with_answer w (answer_to m s w.state call))
      (ap (λ (t : State). returned (answer_to m s t call)) same)

module _ (m : Sheet → Reader → Reading) (s : List ℕ) (sheet : Sheet) (law : (r : Reader) → Settles (m sheet r)) where
  -- the sheet of the list is that of the state before the call, so its readings settle there
  peek_in_list : (before : List Call) (call : Call) → Preceded m s (trace_fresh m s sheet before).state call
      → PeekChangesNothing m s (trace_fresh m s sheet before).state call
  peek_in_list before call =
      peek_changes_nothing m s (trace_fresh m s sheet before).state
      (λ r. subst (λ (g : Sheet). Settles (m g r)) (sym (kept m s sheet before).tallied.word) (law r)) call

  same_end : (before : List Call) (call : Call) (after : List Call) → Preceded m s (trace_fresh m s sheet before).state call
      → (trace_fresh m s sheet (before ++ (peek_by (reader_of call) ∷ call ∷ after))).state ≡ (trace_fresh m s sheet (before ++ (call ∷ after))).state
  same_end before call after allowed =
      rw (run_append m s before (peek_by (reader_of call) ∷ call ∷ after) (trace_from (fresh_on sheet)), run_append m s before (call ∷ after) (trace_from (fresh_on sheet)))
      (run_state m s after _ _ (peek_in_list before call allowed).state)

  pub byte_tally : (calls : List Call) → ByteTally m s sheet calls
  byte_tally calls =
      let reached = kept m s sheet calls in
      record {
        bytes = reached.tallied.bytes;
        inside = reached.tallied.inside;
        cursor = reached.cursor;
        runs = reached.tallied.runs;
        counts = λ r. reached.tallied.counts r ∙ agreed (m sheet) (trace_fresh m s sheet calls).history reached.agree r;
        agree = reached.agree;
        skips = reached.skips;
        peeks = λ before call after e. peek_in_list before call;
        inserted = λ before call after e allowed.
            same_end before call after allowed ∙ ap (λ (l : List Call). (trace_fresh m s sheet l).state) (sym e);
        word = reached.word;
      }

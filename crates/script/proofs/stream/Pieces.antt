-- Input that is taken in piece by piece, and the bytes of a record that are kept for the next piece: for the functions of a turn and of
-- a read, and for the history. Assumes nothing.
use mathlib.Core.Path.{◌≡◌, refl, ◌∙◌, ap, sym}
use mathlib.Core.Bool.{Bool, true, false, cond}
use mathlib.Core.List.{List, [], ◌∷◌, ◌++◌}
use Prim.Native.Nat.{ℕ, zero, suc, ◌+◌, ◌-◌, ◌≤◌, ◌<◌}
use native.Mathlib.Omega.{arith}
use lib.ListN.{length, take, drop, length-take}
use borrow.Author.Tests.{ne_eqb, ltb-true, ltb-false, leb-false, le-leb}
use lib.Dec.{leb, ltb}
use Rattle.std.proofs.lemmas.Bool.{false≢true}
use Rattle.std.proofs.lemmas.List.{drop-take}
use Rattle.std.specs.Prelude.{Option, Some, None, Result, Ok, Err, IfOk}
use Rattle.script.specs.declared.record.Kind.{Kind}
use Rattle.script.specs.declared.record.Kind.TheVariants as kind
use Rattle.script.specs.declared.run.Stage.{Stage}
use Rattle.script.specs.declared.answer.Progress.{Progress}
use Rattle.script.specs.declared.stream.Start.{Start}
use Rattle.script.specs.declared.stream.Next.{Next}
use Rattle.script.specs.declared.stream.Next.TheVariants as next
use Rattle.script.specs.declared.stream.Turn.{Turn}
use Rattle.script.specs.declared.stream.StreamError.{StreamError}
use Rattle.script.specs.Line.{longest_line}
use Rattle.script.specs.declared.refusal.Refusal.{Refusal}
use Rattle.script.specs.Record.{kind_of, body_length, size_behind, longest_body}
use Rattle.script.specs.Run.{Run, run_in, is_stopped}
use Rattle.script.specs.Script.{is_due, next_is_due, GoesAsFar, Answers}
use Rattle.script.specs.Stream.{next_of, Leads, Turns, arrival_of, RoomToRead}
use Rattle.script.proofs.answer.Records.{stopped_prints_nothing, is_stopped_run}

-- what `next_of` answers says what the contract of a turn wants, where nothing that is due is left
still_not_due : (stage : Stage) (room : ℕ) (kept : List ℕ) → is_stopped stage ≡ false → leb longest_line room ≡ true → next_is_due stage room false kept ≡ false
    → next_is_due stage longest_line false kept ≡ false
unfolding is_due
still_not_due stage room [] e f due = refl
still_not_due stage room (k ∷ body) e f due = rw e (rw (e, f) at due)

none_left : (stage : Stage) (room : ℕ) (kept : List ℕ) → is_stopped stage ≡ false → leb longest_line room ≡ true → next_is_due stage room true kept ≡ false → kept ≡ []
unfolding is_due
none_left stage room [] e f due = refl
none_left stage room (k ∷ body) e f due = let no : true ≡ false = rw (e, f) at due in absurd (false≢true (sym no))

leads_by : (stage : Stage) (room : ℕ) (ended : Bool) (kept text : List ℕ) (s r : Bool) → is_stopped stage ≡ s → ltb room longest_line ≡ r
    → next_is_due stage room ended kept ≡ false
    → Leads stage room ended kept (run_in text stage) (cond s next.Over (cond r next.Again (cond ended next.Over next.Read)))
leads_by stage room ended kept text true r e f due =
    λ rest ends. rw (is_stopped_run text stage e) (stopped_prints_nothing (kept ++ rest) 0 ∙ sym (stopped_prints_nothing rest 0))
leads_by stage room ended kept text false true e f due = ltb-true room longest_line f
leads_by stage room true kept text false false e f due =
    λ rest ends. rw (none_left stage room kept e (le-leb longest_line room (ltb-false room longest_line f)) due, ends refl)
leads_by stage room false kept text false false e f due =
    (refl, e, still_not_due stage room kept e (le-leb longest_line room (ltb-false room longest_line f)) due)

leads_as : (stage : Stage) (room : ℕ) (ended : Bool) (kept text : List ℕ) → next_is_due stage room ended kept ≡ false
    → Leads stage room ended kept (run_in text stage) (next_of stage room ended)
unfolding next_of
leads_as stage room ended kept text due = leads_by stage room ended kept text (is_stopped stage) (ltb room longest_line) refl refl due

bodies_short : (k : Kind) → body_length k ≤ longest_body
bodies_short kind.Text = omega arith
bodies_short kind.Open = omega arith
bodies_short kind.Peek = omega arith
bodies_short kind.Take = omega arith
bodies_short kind.Read = omega arith
bodies_short kind.ZeroSkip = omega arith
bodies_short kind.Block = omega arith

sizes_short : (k : Result Kind Refusal) → size_behind k ≤ longest_body
sizes_short (Ok k) = bodies_short k
sizes_short (Err refused) = omega arith

not_whole_short : (stage : Stage) (kept : List ℕ) → is_stopped stage ≡ false → next_is_due stage longest_line false kept ≡ false → length kept ≤ longest_body
unfolding is_due
not_whole_short stage [] e due = omega arith
not_whole_short stage (k ∷ body) e due =
    let less : leb (size_behind (kind_of k)) (length body) ≡ false = rw e at due in
    omega (arith, leb-false (size_behind (kind_of k)) (length body) less, sizes_short (kind_of k))

read_short : (n : Next) (stage : Stage) (room : ℕ) (ended : Bool) (kept : List ℕ) (run : Run) → Leads stage room ended kept run n → n ≡ next.Read → length kept ≤ longest_body
read_short n stage room ended kept run leads e = let l = rw e at leads in not_whole_short stage kept l.1 l.2

-- what is kept where a turn asks for a read is less than a record
pub room_to_read : (text buffer : List ℕ) (start : Start) (text' buffer' out : List ℕ) (turn : Turn) → Turns text buffer start text' buffer' out turn
    → longest_body < length buffer' → RoomToRead turn buffer'
room_to_read text buffer start text' buffer' out turn t room e =
    let short : length (take turn.kept buffer') ≤ longest_body = read_short turn.next _ _ _ _ _ t.leads e in
    omega (arith, simp length-take at short, room, t.kept)

-- what `answer` left of a buffer's first bytes, and `keep_tail` moved to its start
pub turned : (text buffer : List ℕ) (begun : Stage) (filled : ℕ) (ended : Bool) (text' buffer' out : List ℕ) (p : Progress) (kept : ℕ) (next : Next)
    → filled ≤ length buffer → Answers text begun (take (filled - 0) buffer) ended text' out p
    → GoesAsFar (take (filled - 0) buffer) ended (length out) p → next ≡ next_of p.stage (length out - p.end) ended → kept ≡ filled - p.used
    → length buffer' ≡ length buffer → take kept buffer' ≡ take kept (drop p.used buffer)
    → Turns text buffer (record { stage = begun; filled = filled; ended = ended }) text' buffer' out (record { stage = p.stage; kept = kept; end = p.end; next = next })
turned text buffer begun filled ended text' buffer' out p kept next inside answers far chosen count size moved =
    let whole : filled - 0 ≡ filled = omega arith in
    let filled_so : filled ≡ p.used + kept = omega (arith, inside, count, simp length-take at answers.read) in
    let left : take kept buffer' ≡ drop p.used (take filled buffer) = moved ∙ rw (filled_so, drop-take p.used kept buffer) in
    let a : Answers text begun (take filled buffer) ended text' out p = rw whole at answers in
    let due : next_is_due p.stage (length out - p.end) ended (drop p.used (take filled buffer)) ≡ false = rw whole at far in
    record {
      kept = omega (arith, inside, count, size);
      written = a.written;
      prints = λ rest ends. rw left (a.prints rest ends);
      leads = rw (left, chosen) (leads_as p.stage (length out - p.end) ended (drop p.used (take filled buffer)) text' due);
    }

filled_of : Result (Option ℕ) StreamError → ℕ
filled_of (Ok (Some filled)) = suc filled
filled_of (Ok None) = 0
filled_of (Err error) = 0

some_same : (a b : ℕ) → ◌≡◌ {A = Result (Option ℕ) StreamError} (Ok (Some a)) (Ok (Some b)) → a ≡ b
unfolding filled_of
some_same a b e = let same : suc a ≡ suc b = ap filled_of e in omega (arith, same)

some_no : (a : ℕ) (r : Result (Option ℕ) StreamError) → filled_of r ≡ 0 → Ok (Some a) ≡ r → ⊥
unfolding filled_of
some_no a r none e = let same : suc a ≡ 0 = ap filled_of e ∙ none in omega (arith, same)

-- what a read told: there are bytes where it says so, and they are within the buffer
pub came_behind : (kept filled : ℕ) (buffer : List ℕ) (got : Result ℕ StreamError) → IfOk got (λ came. came ≤ length buffer - kept)
    → Ok (Some filled) ≡ arrival_of got kept → (kept < filled) × (kept ≤ length buffer → filled ≤ length buffer)
unfolding filled_of
came_behind kept filled buffer (Err error) fits e = absurd (some_no filled (Err error) refl e)
came_behind kept filled buffer (Ok zero) fits e = absurd (some_no filled (Ok None) refl e)
came_behind kept filled buffer (Ok (suc came)) fits e =
    let same : filled ≡ kept + suc came = some_same filled (kept + suc came) (rw (ne_eqb (suc came) 0 (omega arith)) at e) in
    (omega (arith, same), λ inside. omega (arith, inside, fits, same))

-- Turn after turn: what a whole run hands on, however its input is cut into pieces (`over_prints`, `ended_prints`), and for `take_turns`
-- what its loop keeps. Assumes nothing.
use mathlib.Core.Path.{◌≡◌, refl, ◌∙◌, ap, sym}
use mathlib.Core.Bool.{Bool, true, false}
use mathlib.Core.List.{List, [], ◌∷◌, ◌++◌, append_assoc, append-nil}
use Prim.Native.Nat.{ℕ, suc, ◌≤◌}
use native.Mathlib.Omega.{arith}
use lib.ListN.{length, take, drop, take-append-drop, length-take, length-append}
use lib.Seq.{take-take}
use Rattle.std.specs.Prelude.{Option, Some, None, Result, Ok, Err, IfErr, is_ok}
use Rattle.script.specs.declared.run.Stage.{Stage}
use Rattle.script.specs.declared.stream.Start.{Start}
use Rattle.script.specs.declared.stream.Next.{Next}
use Rattle.script.specs.declared.stream.Next.TheVariants as next
use Rattle.script.specs.declared.stream.Turn.{Turn}
use Rattle.script.specs.declared.stream.StreamError.{StreamError}
use Rattle.script.specs.declared.stream.StreamError.TheVariants.{CannotRead, CannotWrite}
use Rattle.script.specs.Run.{Run, gathering, stopped, run_in}
use Rattle.script.specs.Script.{output_from, output_of}
use Rattle.script.specs.Stream.{Prints, Leads, Turns, first_start, Reads, behind_read, FollowsBy, Follows, piece_behind, History, begins, goes_on, LastTurn, last, joined, Ran, RanTo, Ends}
use Rattle.std.proofs.lemmas.List.{drop_all}
use Rattle.std.proofs.lemmas.Bool.{false≢true}
use Rattle.script.proofs.answer.Records.{stopped_prints_nothing}
use Rattle.script.proofs.stream.Pieces.{came_behind}

start_of : Result (Option Start) StreamError → Start
start_of (Ok (Some start)) = start
start_of (Ok None) = first_start
start_of (Err error) = first_start

-- a number for each way that a run goes on, by which they are told apart
code_of : Result (Option Start) StreamError → ℕ
code_of (Ok (Some start)) = 0
code_of (Ok None) = 1
code_of (Err CannotRead) = 2
code_of (Err CannotWrite) = 3

told_apart : {a b : Result (Option Start) StreamError} → a ≡ b → (code_of a ≡ code_of b → ⊥) → ⊥
told_apart e differ = differ (ap code_of e)

on_same : (s t : Start) → ◌≡◌ {A = Result (Option Start) StreamError} (Ok (Some s)) (Ok (Some t)) → s ≡ t
unfolding start_of
on_same s t e = ap start_of e

not_over : (s : Start) → ◌≡◌ {A = Result (Option Start) StreamError} (Ok (Some s)) (Ok None) → ⊥
unfolding code_of
not_over s e = told_apart e (λ no. omega (arith, no))

not_failed : (came : Option Start) (error : StreamError) → ◌≡◌ {A = Result (Option Start) StreamError} (Ok came) (Err error) → ⊥
not_failed came error e = let no : true ≡ false = ap is_ok e in absurd (false≢true (sym no))

read_or_write : ◌≡◌ {A = Result (Option Start) StreamError} (Err CannotRead) (Err CannotWrite) → ⊥
unfolding code_of
read_or_write e = told_apart e (λ no. omega (arith, no))

-- a run is over, or breaks off at a read, only where its last turn says so
over_read : (came : Result (Option ℕ) StreamError) (turn : Turn) → Ok None ≡ behind_read turn came → ⊥
over_read (Ok came) turn e = not_over _ (sym e)
over_read (Err error) turn e = not_failed _ error e

over_by : (n : Next) (turn : Turn) (ended : Bool) (buffer buffer' : List ℕ) → FollowsBy n turn ended buffer buffer' (Ok None) → n ≡ next.Over
over_by next.Over turn ended buffer buffer' follows = refl
over_by next.Again turn ended buffer buffer' follows = absurd (not_over _ (sym follows.1))
over_by next.Read turn ended buffer buffer' follows = absurd (over_read follows.came turn follows.tells)

over_said : (written : Result (Unit {0}) StreamError) (turn : Turn) (ended : Bool) (buffer buffer' : List ℕ) → Follows written turn ended buffer buffer' (Ok None)
    → turn.next ≡ next.Over
over_said (Ok done) turn ended buffer buffer' follows = over_by turn.next turn ended buffer buffer' follows
over_said (Err error) turn ended buffer buffer' follows = absurd (not_failed _ error follows.1)

unread_by : (n : Next) (turn : Turn) (ended : Bool) (buffer buffer' : List ℕ) → FollowsBy n turn ended buffer buffer' (Err CannotRead) → n ≡ next.Read
unread_by next.Over turn ended buffer buffer' follows = absurd (not_failed _ _ (sym follows.1))
unread_by next.Again turn ended buffer buffer' follows = absurd (not_failed _ _ (sym follows.1))
unread_by next.Read turn ended buffer buffer' follows = refl

unread_said : (written : Result (Unit {0}) StreamError) (turn : Turn) (ended : Bool) (buffer buffer' : List ℕ) → IfErr written (λ error. error ≡ CannotWrite)
    → Follows written turn ended buffer buffer' (Err CannotRead) → turn.next ≡ next.Read
unread_said (Ok done) turn ended buffer buffer' fails follows = unread_by turn.next turn ended buffer buffer' follows
unread_said (Err error) turn ended buffer buffer' fails follows = absurd (read_or_write (follows.1 ∙ ap (λ (x : StreamError). Err x) fails))

-- a run goes on only where its lines were written
on_written : (written : Result (Unit {0}) StreamError) (turn : Turn) (ended : Bool) (buffer buffer' : List ℕ) (start : Start)
    → Follows written turn ended buffer buffer' (Ok (Some start)) → FollowsBy turn.next turn ended buffer buffer' (Ok (Some start))
on_written (Ok done) turn ended buffer buffer' start follows = follows
on_written (Err error) turn ended buffer buffer' start follows = absurd (not_failed _ error follows.1)

-- What a run that goes on begins its next turn with: the stage and the bytes of the last one, and bytes behind them; where the input had
-- ended, none.
record Continues (turn : Turn) (ended : Bool) (buffer buffer' : List ℕ) (start : Start) : Type 0 where
  stage : start.stage ≡ turn.stage
  kept : turn.kept ≤ start.filled
  within : turn.kept ≤ length buffer' → start.filled ≤ length buffer'
  same : take turn.kept buffer' ≡ take turn.kept buffer
  stays : ended ≡ true → (start.filled ≡ turn.kept) × (start.ended ≡ true)

continues_read : (came : Result (Option ℕ) StreamError) (turn : Turn) (ended : Bool) (buffer buffer' : List ℕ) (start : Start) → ended ≡ false
    → Reads turn.kept buffer buffer' came → Ok (Some start) ≡ behind_read turn came → Continues turn ended buffer buffer' start
continues_read (Ok (Some filled)) turn ended buffer buffer' start more reads e =
    let s : start ≡ record { stage = turn.stage; filled = filled; ended = false } = on_same start _ e in
    let behind = came_behind turn.kept filled buffer' reads.got reads.fits reads.tells in
    let f : start.filled ≡ filled = ap (λ (x : Start). x.filled) s in
    record {
      stage = ap (λ (x : Start). x.stage) s;
      kept = omega (arith, behind.0, f);
      within = λ inside. omega (arith, behind.1 inside, f);
      same = reads.same;
      stays = λ closed. absurd (false≢true (sym more ∙ closed));
    }
continues_read (Ok None) turn ended buffer buffer' start more reads e =
    let s : start ≡ record { stage = turn.stage; filled = turn.kept; ended = true } = on_same start _ e in
    let f : start.filled ≡ turn.kept = ap (λ (x : Start). x.filled) s in
    record {
      stage = ap (λ (x : Start). x.stage) s;
      kept = omega (arith, f);
      within = λ inside. omega (arith, inside, f);
      same = reads.same;
      stays = λ closed. absurd (false≢true (sym more ∙ closed));
    }
continues_read (Err error) turn ended buffer buffer' start more reads e = absurd (not_failed _ error e)

continues : (n : Next) (turn : Turn) (ended : Bool) (room : ℕ) (kept : List ℕ) (run : Run) (buffer buffer' : List ℕ) (start : Start)
    → Leads turn.stage room ended kept run n → FollowsBy n turn ended buffer buffer' (Ok (Some start)) → Continues turn ended buffer buffer' start
continues next.Over turn ended room kept run buffer buffer' start leads follows = absurd (not_over start follows.1)
continues next.Again turn ended room kept run buffer buffer' start leads follows =
    let s : start ≡ record { stage = turn.stage; filled = turn.kept; ended = ended } = on_same start _ follows.1 in
    let f : start.filled ≡ turn.kept = ap (λ (x : Start). x.filled) s in
    record {
      stage = ap (λ (x : Start). x.stage) s;
      kept = omega (arith, f);
      within = λ inside. omega (arith, inside, f);
      same = ap (take turn.kept) follows.0;
      stays = λ closed. (f, ap (λ (x : Start). x.ended) s ∙ closed);
    }
continues next.Read turn ended room kept run buffer buffer' start leads follows =
    continues_read follows.came turn ended buffer buffer' start leads.0 follows.reads follows.tells

joined_last : (ls : List (List ℕ)) (l : List ℕ) → joined (ls ++ (l ∷ [])) ≡ joined ls ++ l
joined_last [] l = append-nil l
joined_last (x ∷ ls) l = ap (λ (t : List ℕ). x ++ t) (joined_last ls l) ∙ sym (append_assoc x (joined ls) l)

-- the bytes that a turn begins with are those that were kept, and the piece behind them
behind : (kept filled : ℕ) (buffer buffer' : List ℕ) → kept ≤ filled → take kept buffer' ≡ take kept buffer
    → take kept buffer ++ drop kept (take filled buffer') ≡ take filled buffer'
behind kept filled buffer buffer' order same =
    ap (λ (l : List ℕ). l ++ drop kept (take filled buffer')) (sym same ∙ sym (take-take kept filled buffer' order)) ∙ take-append-drop kept (take filled buffer')

none_behind : (kept filled : ℕ) (buffer : List ℕ) → filled ≡ kept → drop kept (take filled buffer) ≡ []
none_behind kept filled buffer e = drop_all kept (take filled buffer) (simp length-take (omega (arith, e)))

module _ (start start' : Start) (text text' buffer buffer' buffer'' out came printed : List ℕ) (turn : Turn)
    (before : Prints start.ended came (gathering []) printed (take start.filled buffer) (run_in text start.stage))
    (turns : Turns text buffer start text' buffer' out turn) (on : Continues turn start.ended buffer' buffer'' start')
  where
    abbrev piece : List ℕ
    piece = piece_behind turn start' buffer''

    no_more : (rest : List ℕ) → (start'.ended ≡ true → rest ≡ []) → start.ended ≡ true → piece ++ rest ≡ []
    no_more rest ends e = let stays = on.stays e in rw (none_behind turn.kept start'.filled buffer'' stays.0, ends stays.1)

    step_prints : Prints start'.ended (came ++ piece) (gathering []) (printed ++ take turn.end out) (take start'.filled buffer'') (run_in text' start'.stage)
    step_prints rest ends =
        let join : take turn.kept buffer' ++ (piece ++ rest) ≡ take start'.filled buffer'' ++ rest
        = sym (append_assoc (take turn.kept buffer') piece rest) ∙ ap (λ (l : List ℕ). l ++ rest) (behind turn.kept start'.filled buffer' buffer'' on.kept on.same) in
        ap (λ (l : List ℕ). output_from l 0 (gathering [])) (append_assoc came piece rest)
        ∙ before (piece ++ rest) (no_more rest ends)
        ∙ ap (λ (l : List ℕ). printed ++ l) (turns.prints (piece ++ rest) (no_more rest ends))
        ∙ sym (append_assoc printed (take turn.end out) _)
        ∙ ap (λ (l : List ℕ). (printed ++ take turn.end out) ++ output_from l 0 (run_in text' turn.stage)) join
        ∙ ap (λ (s : Stage). (printed ++ take turn.end out) ++ output_from (take start'.filled buffer'' ++ rest) 0 (run_in text' s)) (sym on.stage)

-- However the input is cut into pieces: what the turns left to be handed on, and what is still to come, is what the definition prints.
pub history_prints : {pieces lines : List (List ℕ)} {start : Start} {text buffer : List ℕ} → History pieces lines start text buffer
    → Prints start.ended (joined pieces) (gathering []) (joined lines) (take start.filled buffer) (run_in text start.stage)
history_prints begins = λ rest ends. refl
history_prints (goes_on {pieces = pieces} {lines = lines} {start = start} {start' = start'} {text = text} {text' = text'} {buffer = buffer} {buffer' = buffer'} {buffer'' = buffer''} {out = out} {turn = turn} h turns follows) =
    λ rest ends.
    let on = continues turn.next turn start.ended _ _ _ buffer' buffer'' start' turns.leads follows in
    rw (joined_last pieces (piece_behind turn start' buffer''), joined_last lines (take turn.end out))
    (step_prints start start' text text' buffer buffer' buffer'' out (joined pieces) (joined lines) turn (history_prints h) turns on rest ends)

over_leads : (n : Next) (stage : Stage) (room : ℕ) (ended : Bool) (kept : List ℕ) (run : Run) → n ≡ next.Over → Leads stage room ended kept run n
    → Prints ended kept run [] [] stopped
over_leads n stage room ended kept run e leads = rw e at leads

-- The theorem. Of a run whose last turn says that it is over: the lines that the turns left to be handed on, joined, are what the
-- definition prints of the pieces, joined, however the input was cut into them. Where the run stopped before the input's end, that is so
-- whatever was not read.
pub over_prints : {pieces lines : List (List ℕ)} {ended : Bool} {text out : List ℕ} {turn : Turn} → LastTurn pieces lines ended text out turn
    → turn.next ≡ next.Over → (unread : List ℕ) → (ended ≡ true → unread ≡ []) → joined lines ≡ output_of (joined pieces ++ unread)
unfolding output_of
over_prints (last {pieces = pieces} {lines = lines} {text' = text'} {buffer' = buffer'} {out = out} {turn = turn} h turns) over unread ends =
    let nothing : output_from (take turn.kept buffer' ++ unread) 0 (run_in text' turn.stage) ≡ []
    = over_leads turn.next _ _ _ _ _ over turns.leads unread ends ∙ stopped_prints_nothing unread 0 in
    joined_last lines (take turn.end out)
    ∙ sym (history_prints h unread ends ∙ ap (λ (l : List ℕ). joined lines ++ l) (turns.prints unread ends ∙ ap (λ (l : List ℕ). take turn.end out ++ l) nothing ∙ append-nil (take turn.end out)))

-- the same of a run whose input has ended
pub ended_prints : {pieces lines : List (List ℕ)} {text out : List ℕ} {turn : Turn} → LastTurn pieces lines true text out turn → turn.next ≡ next.Over
    → joined lines ≡ output_of (joined pieces)
ended_prints {pieces = pieces} run over = over_prints run over [] (λ e. refl) ∙ ap output_of (append-nil (joined pieces))

-- what the loop of turns keeps, from its start and from turn to turn
pub ran_starts : (text buffer : List ℕ) (start : Start) → start ≡ first_start → (start.filled ≤ length buffer) × Ran 0 start text buffer
ran_starts text buffer start e = rw e (omega arith, record { pieces = []; lines = []; history = begins; turns = refl })

module _ {count : ℕ} {start : Start} {text text' buffer buffer' out : List ℕ} {turn : Turn} (ran : Ran count start text buffer)
    (turns : Turns text buffer start text' buffer' out turn) (written : Result (Unit {0}) StreamError) (buffer'' : List ℕ) (answer : Result (Option Start) StreamError)
    (follows : Follows written turn start.ended buffer' buffer'' answer)
  where
    goes : (start' : Start) → answer ≡ Ok (Some start') → Follows (Ok tt) turn start.ended buffer' buffer'' (Ok (Some start'))
    goes start' e = on_written written turn start.ended buffer' buffer'' start' (rw e at follows)

    pub ran_within : (start' : Start) → answer ≡ Ok (Some start') → length buffer'' ≡ length buffer' → start'.filled ≤ length buffer''
    ran_within start' e size =
        let on = continues turn.next turn start.ended _ _ _ buffer' buffer'' start' turns.leads (goes start' e) in
        on.within (omega (arith, turns.kept, size))

    pub ran_goes_on : {start' : Start} {count' : ℕ} → answer ≡ Ok (Some start') → count' ≡ suc count → Ran count' start' text' buffer''
    ran_goes_on {start' = start'} e more =
        record {
          pieces = ran.pieces ++ (piece_behind turn start' buffer'' ∷ []);
          lines = ran.lines ++ (take turn.end out ∷ []);
          history = goes_on ran.history turns (goes start' e);
          turns = simp length-append (omega (arith, more, ran.turns));
        }

    ran_to : {how : Next → Type 0} → how turn.next → RanTo text' out how
    ran_to ends = record { pieces = ran.pieces; lines = _; ended = _; turn = turn; last = last ran.history turns; ends = ends }

    pub ran_over : answer ≡ Ok None → RanTo text' out (λ n. n ≡ next.Over)
    ran_over e = ran_to (over_said written turn start.ended buffer' buffer'' (rw e at follows))

    pub ran_failed : IfErr written (λ error. error ≡ CannotWrite) → (error : StreamError) → answer ≡ Err error → Ends text' buffer'' out (Err error)
    ran_failed fails CannotRead e = ran_to (unread_said written turn start.ended buffer' buffer'' fails (rw e at follows))
    ran_failed fails CannotWrite e = ran_to tt

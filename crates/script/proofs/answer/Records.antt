-- The loop over the records of an input, whatever comes behind the part that has arrived: for `answer`; what a stopped run
-- prints: for the turns and the history. `answered_whole`: an input answered to its end. Assumes nothing.
use mathlib.Core.Path.{◌≡◌, refl, ◌∙◌, ap, sym}
use mathlib.Core.Bool.{Bool, true, false, not, ◌&&◌, ◌||◌}
use mathlib.Core.List.{List, [], ◌∷◌, ◌++◌, append_assoc, append-nil}
use Prim.Native.Nat.{ℕ, zero, suc, ◌+◌, ◌-◌, ◌≤◌, ◌<◌, min}
use native.Mathlib.Omega.{arith}
use native.Mathlib.Numerals.{add-one}
use borrow.Author.Tests.{leb-true, le-leb, ltb-true, ltb-false}
use lib.Dec.{ltb, leb}
use Rattle.std.proofs.lemmas.Bool.{false≢true}
use Rattle.std.specs.Prelude.{Result}
use lib.ListN.{length, take, drop, get_or, length-drop}
use lib.Seq.{drop-length, drop-cons, drop-drop}
use Rattle.script.specs.declared.record.Kind.{Kind}
use Rattle.script.specs.declared.record.Record.{Record}
use Rattle.script.specs.declared.run.Stage.{Stage}
use Rattle.script.specs.declared.run.Stage.TheVariants as stage
use Rattle.script.specs.declared.run.Response.{Response as Response'}
use Rattle.script.specs.declared.refusal.Refusal.{Refusal}
use Rattle.script.specs.Record.{kind_of, size_behind, record_behind, record_at}
use Rattle.script.specs.declared.answer.Progress.{Progress}
use Rattle.script.specs.Line.{longest_line}
use Rattle.script.specs.Run.{Run, gathering, stopped, run_in, is_stopped, respond, Responds}
use Rattle.script.specs.Script.{response_at, output_from, output_of, is_due, next_is_due, GoesAsFar, Answers}
use Rattle.script.proofs.line.Writes.{wrote_inside}
use Rattle.script.proofs.answer.Prefixes.{turn}

-- What holds whenever the loop's test is reached: of the input, `left` is still to be answered.
pub record Answering (text₀ : List ℕ) (begun : Stage) (input : List ℕ) (ended : Bool) (out₀ text out : List ℕ) (stage : Stage) (left : List ℕ) (end : ℕ)
    : Type 0 where
  pub size : length out ≡ length out₀
  pub read : length left ≤ length input
  pub place : drop (length input - length left) input ≡ left
  pub written : end ≤ length out
  pub prints : (rest : List ℕ) → (ended ≡ true → rest ≡ [])
      → output_from (input ++ rest) 0 (run_in text₀ begun) ≡ take end out ++ output_from (left ++ rest) 0 (run_in text stage)

pub answering_starts : (text : List ℕ) (begun : Stage) (input : List ℕ) (ended : Bool) (out : List ℕ) → Answering text begun input ended out text out begun input 0
answering_starts text begun input ended out =
    let none : length input - length input ≡ 0 = omega arith in
    record { size = refl; read = omega arith; place = rw none; written = omega arith; prints = λ rest ends. refl }

module _ {text₀ : List ℕ} {begun : Stage} {input : List ℕ} {ended : Bool} {out₀ text out : List ℕ} {stage : Stage} {end : ℕ} (n : ℕ) (body : List ℕ)
    (here : Answering text₀ begun input ended out₀ text out stage (n ∷ body) end)
    (due : ended ≡ false → size_behind (kind_of n) ≤ length body)
  where
    -- a record that is cut short has nothing behind it
    ends_here : (rest : List ℕ) → (ended ≡ true → rest ≡ []) → length body < size_behind (kind_of n) → rest ≡ []
    ends_here rest ends less = go ended refl where
      go : (b : Bool) → ended ≡ b → rest ≡ []
      go true e = ends e
      go false e = absurd (omega (arith, due e, less))

    pub answering_goes_on : {text' out' : List ℕ} {answer : Response'} {k : ℕ} → k ≡ min (size_behind (kind_of n)) (length body)
        → Responds (response_at (run_in text stage) n body) text' out end out' answer
        → Answering text₀ begun input ended out₀ text' out' answer.stage (drop k body) answer.end
    answering_goes_on {k = k} ek r =
        let fewer : length (drop k body) ≡ length body - k = length-drop k body in
        let fits : k ≤ length body = omega (arith, ek) in
        let whole : length input - length (drop k body) ≡ (length input - suc (length body)) + suc k = omega (arith, fewer, fits, here.read) in
        record {
          size = r.wrote.size ∙ here.size;
          read = omega (arith, fewer, here.read);
          place = rw whole (sym (drop-drop (suc k) (length input - suc (length body)) input) ∙ ap (drop (suc k)) here.place);
          written = wrote_inside here.written r.wrote;
          prints = λ rest ends.
              here.prints rest ends
              ∙ ap (λ (l : List ℕ). take end out ++ l) (turn n body rest (run_in text stage) (ends_here rest ends))
              ∙ rw (ek, r.wrote.contents, r.goes_on, append_assoc);
        }

-- what a record that is due has
module _ (stage : Stage) (room : ℕ) (ended : Bool) (size there : ℕ) (is : Bool) (known : is ≡ is_due stage room ended size there) (holds : is ≡ true)
  where
    due : is_due stage room ended size there ≡ true
    due = sym known ∙ holds

    pub due_room : longest_line ≤ room
    unfolding is_due
    due_room = go (is_stopped stage) (leb longest_line room) refl refl where
      go : (s r : Bool) → is_stopped stage ≡ s → leb longest_line room ≡ r → longest_line ≤ room
      go s true e f = leb-true longest_line room f
      go true false e f = let no : false ≡ true = rw e at due in absurd (false≢true no)
      go false false e f = let no : false ≡ true = rw (e, f) at due in absurd (false≢true no)

    pub due_whole : ended ≡ false → size ≤ there
    unfolding is_due
    due_whole more = go (is_stopped stage) (leb longest_line room) (leb size there) refl refl refl where
      go : (s r w : Bool) → is_stopped stage ≡ s → leb longest_line room ≡ r → leb size there ≡ w → size ≤ there
      go s r true e f g = leb-true size there g
      go true r false e f g = let no : false ≡ true = rw e at due in absurd (false≢true no)
      go false false false e f g = let no : false ≡ true = rw (e, f) at due in absurd (false≢true no)
      go false true false e f g = let no : false ≡ true = rw (e, f, more, g) at due in absurd (false≢true no)

-- where the loop ends with the input nothing is due, and where it ends before, the next record is not
pub nothing_due : (left : List ℕ) (stage : Stage) (room : ℕ) (ended : Bool) → length left ≡ 0 → next_is_due stage room ended left ≡ false
nothing_due [] stage room ended none = refl
nothing_due (n ∷ body) stage room ended none = absurd (omega (arith, none))

pub not_due : (n : ℕ) (body : List ℕ) (stage : Stage) (room : ℕ) (ended : Bool) (size there : ℕ) (is : Bool)
    → is ≡ is_due stage room ended size there → is ≡ false → size ≡ size_behind (kind_of n) → there ≡ length body
    → next_is_due stage room ended (n ∷ body) ≡ false
not_due n body stage room ended size there is known left e f = rw (e, f) at (sym known ∙ left)

-- the response to the record that the code asks for is the definition's
pub responds_at : (run : Run) {text before after : List ℕ} {at : ℕ} {answer : Response'} (rest : List ℕ) (n : ℕ) (k : Result Kind Refusal)
    (asked : Result Record Refusal) → k ≡ kind_of n → asked ≡ record_behind k rest → Responds (respond run asked) text before at after answer
    → Responds (response_at run n rest) text before at after answer
unfolding response_at record_at
responds_at run rest n k asked kind known r = let same : asked ≡ record_behind (kind_of n) rest = rw kind at known in rw same at r

-- nothing answers what stands behind a stop
pub stopped_prints_nothing : (input : List ℕ) (skipped : ℕ) → output_from input skipped stopped ≡ []
unfolding response_at
stopped_prints_nothing [] skipped = refl
stopped_prints_nothing (b ∷ rest) (suc skipped) = stopped_prints_nothing rest skipped
stopped_prints_nothing (b ∷ rest) zero = stopped_prints_nothing rest (size_behind (kind_of b))

pub is_stopped_run : (text : List ℕ) (at : Stage) → is_stopped at ≡ true → run_in text at ≡ stopped
is_stopped_run text (stage.Gathering n) e = absurd (false≢true e)
is_stopped_run text (stage.Opened n st) e = absurd (false≢true e)
is_stopped_run text stage.Stopped e = refl

none_after : (input : List ℕ) (k : ℕ) (run : Run) → k ≡ length input → output_from (drop k input ++ []) 0 run ≡ []
none_after input k run e = rw (e, drop-length input)

stops_else : (s w : Bool) → (not s && (true && (true || w))) ≡ false → s ≡ true
stops_else true w e = refl
stops_else false w e = absurd (false≢true (sym e))

due_at : (stage : Stage) (room : ℕ) (ended : Bool) (input : List ℕ) (used : ℕ) → used < length input → next_is_due stage room ended (drop used input) ≡ false
    → is_due stage room ended (size_behind (kind_of (get_or input used 0))) (length (drop (used + 1) input)) ≡ false
due_at stage room ended input used inside far = rw (add-one used) (rw (drop-cons input used 0 inside) at far)

-- An input that has ended and was answered with room to spare: what is written is what the definition prints.
pub answered_whole : (text : List ℕ) (begun : Stage) (input text' out : List ℕ) (p : Progress) → run_in text begun ≡ gathering []
    → Answers text begun input true text' out p → GoesAsFar input true (length out) p → p.end + longest_line ≤ length out
    → take p.end out ≡ output_of input
unfolding output_of is_due
answered_whole text begun input text' out p fresh here far room = go (ltb p.used (length input)) refl where
  rest : List ℕ
  rest = drop p.used input ++ []

  nothing_left : output_from rest 0 (run_in text' p.stage) ≡ [] → take p.end out ≡ output_from input 0 (gathering [])
  nothing_left e = sym (rw (append-nil input, fresh, e, append-nil (take p.end out)) at (here.prints [] (λ e. refl)))

  go : (b : Bool) → ltb p.used (length input) ≡ b → take p.end out ≡ output_from input 0 (gathering [])
  go false e = nothing_left (none_after input p.used (run_in text' p.stage) (omega (arith, here.read, ltb-false p.used (length input) e)))
  go true e =
      let enough : leb longest_line (length out - p.end) ≡ true = le-leb longest_line (length out - p.end) (omega (arith, room)) in
      let size = size_behind (kind_of (get_or input p.used 0)) in
      let there = length (drop (p.used + 1) input) in
      let due : is_due p.stage (length out - p.end) true size there ≡ false = due_at p.stage (length out - p.end) true input p.used (ltb-true p.used (length input) e) far in
      let stop : is_stopped p.stage ≡ true = stops_else (is_stopped p.stage) (leb size there) (rw enough at due) in
      nothing_left (rw (is_stopped_run text' p.stage stop) (stopped_prints_nothing (drop p.used input ++ []) 0))

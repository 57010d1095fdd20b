-- Responses to one record, from what the code wrote and how far it says the run is: for the functions that respond. Assumes nothing.
use mathlib.Core.Path.{◌≡◌, refl}
use mathlib.Core.List.{List}
use Prim.Native.Nat.{ℕ, ◌-◌, min}
use native.Mathlib.Omega.{arith}
use Rattle.std.proofs.lemmas.List.{take_min}
use lib.ListN.{length, take}
use Rattle.reader.specs.declared.state.Reader.{Reader}
use Rattle.reader.specs.declared.state.State.{State}
use Rattle.reader.specs.Reading.{reading_on}
use Rattle.reader.specs.History.{answer_to}
use Rattle.script.specs.declared.call.Reply.{Reply}
use Rattle.script.specs.declared.run.Stage.{Stage}
use Rattle.script.specs.declared.run.Stage.TheVariants as stage
use Rattle.script.specs.declared.run.Response.{Response as Response'}
use Rattle.script.specs.declared.record.Call.{Call}
use Rattle.script.specs.declared.refusal.Refusal.{Refusal}
use Rattle.script.specs.Line.{Wrote}
use Rattle.script.specs.Reply.{call_by, reply_of, reply_line}
use Rattle.script.specs.Run.{Response, Responds, run_in, stops, call_response}
use Rattle.script.proofs.line.Writes.{wrote_as}

pub responds : {response : Response} {buffer before after : List ℕ} {at end : ℕ} {answer : Response'} {stage : Stage}
    → answer ≡ record { stage = stage; end = end } → Wrote before at response.line after end → run_in buffer stage ≡ response.run
    → Responds response buffer before at after answer
responds e w g = rw e (record { wrote = w; goes_on = g })

-- code that refuses has written nothing, and the response is that the run stops
pub stopped_by : {response : Response} (refused : Refusal) {buffer before middle after : List ℕ} {at : ℕ} {answer : Response'}
    → (middle ≡ before) × (response ≡ stops refused) → Responds (stops refused) buffer middle at after answer → Responds response buffer before at after answer
stopped_by refused e r = rw (e.1, ← e.0) r

-- the part of a buffer from 0 to k has k - 0 bytes
module _ (buffer : List ℕ) (k n : ℕ) (st : State) (r : Reader) (asked : Call) (reply : Reply)
    (within : k ≡ min n (length buffer))
    (replied : reply ≡ reply_of (answer_to reading_on (take (k - 0) buffer) st (call_by asked r)))
  where
    pub call_responds : {out after : List ℕ} {at end : ℕ} {answer : Response'} → Wrote out at (reply_line asked reply) after end
        → answer ≡ record { stage = stage.Opened n reply.state; end = end }
        → Responds (call_response (take n buffer) st r asked) buffer out at after answer
    unfolding call_response
    call_responds w answered =
        let whole_part : k - 0 ≡ k = omega arith in
        let reply_told : reply ≡ reply_of (answer_to reading_on (take n buffer) st (call_by asked r)) = rw (whole_part, within, take_min n buffer) at replied in
        responds answered (wrote_as w (rw reply_told) refl) (rw reply_told)

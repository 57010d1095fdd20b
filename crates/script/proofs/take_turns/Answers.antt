-- `script::take_turns` meets its contract: proofs/History.antt has the loop's laws. Assumes nothing.
use mathlib.Core.Path.{◌≡◌, refl, ◌∙◌, ap}
use native.Mathlib.Omega.{arith}
use native.Mathlib.Numerals.{add-one}
use borrow.Author.Rules.{rules}
use lib.ListN.{length}
use Rattle.std.specs.Prelude.{Ok, Err}
use Rattle.script.proofs.History.{ran_starts, ran_within, ran_goes_on, ran_over, ran_failed}
use Rattle.script.proofs.stream.Pieces.{room_to_read}
use Rattle.script.proofs.take_turns.Goals as goal

pub loop-init : goal.loop-init
loop-init c =
    let starts = ran_starts c.args.text.now c.args.buffer.now c.first-start.result c.first-start.ensures in
    (refl, refl, starts.0, starts.1)

pub go_on-requires : goal.go_on-requires
go_on-requires c =
    let t = c.take_turn-turn in
    let l = c.loop in
    let same : length t.new.buffer ≡ length l.buffer = search rules in
    (t.ensures.kept, room_to_read _ _ _ _ t.new.buffer _ t.result t.ensures (omega (arith, c.requires, l.invariant.0, same)))

pub returns-in_err-next : goal.returns-in_err-next
returns-in_err-next c =
    let g = c.go_on in
    let error = c.in_err-next.field-0.0 in
    let told : c.from_residual.result ≡ Err error = search rules in
    rw told (ran_failed c.loop.invariant.3 c.take_turn-turn.ensures c.hand_on-written.result g.new.buffer g.result g.ensures c.hand_on-written.ensures error c.in_err-next.was)

pub returns-in-None : goal.returns-in-None
returns-in-None c =
    let g = c.go_on in
    ran_over c.loop.invariant.3 c.take_turn-turn.ensures c.hand_on-written.result g.new.buffer g.result g.ensures (c.in_ok-next.was ∙ ap Ok c.in-None.is)

pub loop-preserved : goal.loop-preserved
loop-preserved c =
    let t = c.take_turn-turn in
    let l = c.loop in
    let g = c.go_on in
    let on = c.in_ok-next.was ∙ ap Ok c.in-Some.is in (
      search rules,
      search rules,
      ran_within l.invariant.3 t.ensures c.hand_on-written.result g.new.buffer g.result g.ensures _ on (search rules),
      ran_goes_on l.invariant.3 t.ensures c.hand_on-written.result g.new.buffer g.result g.ensures on (add-one l.counter),
    )

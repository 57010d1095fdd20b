-- `vectors::replay::compare_digit` meets its contract. Assumes nothing.
use Rattle.std.proofs.Common.{◌≡◌, ◌∙◌, ap, ◌≤◌, ◌<◌, ◌^◌, arith, rules, Err}
use borrow.Author.Tests.{eq-eqb, ne_eqb, lt-ltb, le-ltb}
use Rattle.vectors.specs.declared.replay.Answer.TheVariants.{Digit}
use Rattle.vectors.specs.declared.replay.Fault.TheVariants.{NoRecord}
use Rattle.vectors.specs.Replay.{value, verdict, digit_verdict}
use Rattle.vectors.proofs.replay.compare_digit.Goals as goal

pub returns-then-parsed-ne-DIGIT_SHAPE : goal.returns-then-parsed-ne-DIGIT_SHAPE
unfolding digit_verdict
returns-then-parsed-ne-DIGIT_SHAPE c = rw (ne_eqb _ _ c.if-parsed-ne-DIGIT_SHAPE.true)

pub returns-in_err-byte : goal.returns-in_err-byte
unfolding digit_verdict
returns-in_err-byte c =
    let p = c.args.parsed in
    let large : 2 ^ 8 ≤ value p 0 = grind arith in
    let none : c.from_residual.result ≡ Err NoRecord = search rules in
    none ∙ rw (eq-eqb _ _ c.if-parsed-ne-DIGIT_SHAPE.false, le-ltb (value p 0) (2 ^ 8) large)

pub returns-in_err-radix : goal.returns-in_err-radix
unfolding digit_verdict
returns-in_err-radix c =
    let p = c.args.parsed in
    let small : value p 0 < 2 ^ 8 = grind arith in
    let large : 2 ^ 32 ≤ value p 1 = grind arith in
    let none : c.from_residual-in_err-radix.result ≡ Err NoRecord = search rules in
    none ∙ rw (eq-eqb _ _ c.if-parsed-ne-DIGIT_SHAPE.false, lt-ltb (value p 0) (2 ^ 8) small, le-ltb (value p 1) (2 ^ 32) large)

pub returns : goal.returns
unfolding digit_verdict
returns c =
    let p = c.args.parsed in
    let small : value p 0 < 2 ^ 8 = grind arith in
    let few : value p 1 < 2 ^ 32 = grind arith in
    let byte : c.in_ok-byte.byte ≡ value p 0 = grind arith in
    let radix : c.in_ok-radix.radix ≡ value p 1 = grind arith in
    rw (eq-eqb _ _ c.if-parsed-ne-DIGIT_SHAPE.false, lt-ltb (value p 0) (2 ^ 8) small, lt-ltb (value p 1) (2 ^ 32) few)
    (c.settle.ensures ∙ ap (verdict Digit (value p 2)) (rw (byte, radix) at c.digit_answer.ensures))

-- `vectors::record::read_number` meets its contract: each turn moves a digit from the list into the number. Assumes nothing.
use Rattle.std.proofs.Common.{◌≡◌, ◌∙◌, sym, arith, rules, get_or, None, Some}
use Rattle.vectors.specs.Hex.{hex_value}
use Rattle.vectors.proofs.record.HexNumbers.{empty, long, small, read_hex_lem, read_end, read_next, grows, fits}
use Rattle.vectors.proofs.record.read_number.Goals as goal

pub returns-then-is_empty : goal.returns-then-is_empty
returns-then-is_empty c = empty c.args.digits.now (grind arith)

pub returns-then-digits-gt-DIGITS : goal.returns-then-digits-gt-DIGITS
returns-then-digits-gt-DIGITS c = long c.args.digits.now (omega arith)

pub overflow_mul-value : goal.overflow_mul-value
overflow_mul-value c =
    let at = c.loop-digit in
    omega (arith, fits at.value at.digit-index 0 at.invariant.1 (omega arith) (omega arith))

pub returns-in_err-value : goal.returns-in_err-value
returns-in_err-value c =
    let digits = c.args.digits.now in
    let at = c.loop-digit in
    let none : c.from_residual.result ≡ None = search rules in
    none
    ∙ sym (read_hex_lem digits (grind arith) (omega arith) ∙ sym at.invariant.2
    ∙ read_next digits at.value at.digit-index None (omega arith) (sym c.in_err-value.was ∙ c.hex_value.ensures))

-- where the byte is a digit, the number with it fits
pub overflow_add-value : goal.overflow_add-value
overflow_add-value c =
    let at = c.loop-digit in
    let d = c.in_ok-value.field-0 in
    let is : hex_value (get_or c.args.digits.now at.digit-index 0) ≡ Some d = sym c.hex_value.ensures ∙ c.in_ok-value.was in
    omega (arith, fits at.value at.digit-index d at.invariant.1 (small _ d is) (omega arith))

pub loop-digit-preserved : goal.loop-digit-preserved
loop-digit-preserved c =
    let digits = c.args.digits.now in
    let at = c.loop-digit in
    let d = c.in_ok-value.field-0 in
    let is : hex_value (get_or digits at.digit-index 0) ≡ Some d = sym c.hex_value.ensures ∙ c.in_ok-value.was in (
      omega arith,
      grows at.value at.digit-index d at.invariant.1 (small _ d is),
      sym (read_next digits at.value at.digit-index (Some d) (omega arith) (sym is)) ∙ at.invariant.2,
    )

pub returns : goal.returns
returns c =
    let digits = c.args.digits.now in
    let at = c.loop-digit in
    sym
    (read_hex_lem digits (grind arith) (omega arith) ∙ sym at.invariant.2
    ∙ read_end digits at.value at.digit-index (omega arith))

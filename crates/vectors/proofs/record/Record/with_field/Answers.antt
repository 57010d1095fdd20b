-- `vectors::record::Record::with_field` meets its contract. Assumes nothing.
use Rattle.std.proofs.Common.{◌∙◌, sym, arith, None, Some}
use Rattle.vectors.proofs.record.Fields.{no_room, no_field, no_space, with_number}
use Rattle.vectors.proofs.record.Record.with_field.Goals as goal

pub returns-then-count-ge-FIELDS : goal.returns-then-count-ge-FIELDS
returns-then-count-ge-FIELDS c = no_room _ c.args.field.now c.if-count-ge-FIELDS.true

pub returns-in_err-first : goal.returns-in_err-first
returns-in_err-first c = c.from_residual.ensures ∙ no_field _ c.args.field.now (omega arith) c.in_err-first.ensures.cases

pub returns-then-first-ne32 : goal.returns-then-first-ne32
returns-then-first-ne32 c = no_space _ c.args.field.now (omega arith) _ _ c.in_ok-first.ensures.cases.0 c.if-first-ne32.true

pub returns-in_err-value : goal.returns-in_err-value
returns-in_err-value c =
    c.from_residual-in_err-value.ensures
    ∙ with_number _ c.args.field.now (omega arith) _ _ c.in_ok-first.ensures.cases.0 None c.if-first-ne32.false (sym c.in_err-value.was ∙ c.read_number.ensures)

pub returns : goal.returns
returns c =
    rw c.pushed.ensures
    (with_number _ c.args.field.now (omega arith) _ _ c.in_ok-first.ensures.cases.0 (Some c.in_ok-value.value) c.if-first-ne32.false (sym c.in_ok-value.was ∙ c.read_number.ensures))

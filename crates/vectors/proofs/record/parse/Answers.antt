-- `vectors::record::parse` meets its contract: each turn passes a field, the space before it at least. Assumes nothing.
use Rattle.std.proofs.Common.{◌∙◌, sym, arith, None, Some}
use Rattle.vectors.proofs.Conversions.{made_of}
use Rattle.vectors.proofs.record.Fields.{no_line, no_kind, a_kind, inside_line, next_field, fields_end}
use Rattle.vectors.proofs.record.parse.Goals as goal

pub returns-in_err-letter : goal.returns-in_err-letter
returns-in_err-letter c = c.from_residual.ensures ∙ no_line c.args.line.now c.in_err-letter.ensures.cases

pub returns-in_err-kind : goal.returns-in_err-kind
returns-in_err-kind c =
    c.from_residual-in_err-kind.ensures
    ∙ no_kind c.args.line.now _ _ c.in_ok-letter.ensures.cases.0 _ (made_of _ _ c.try_from.ensures c.ok.ensures.value) c.in_err-kind.was

pub loop-at-init : goal.loop-at-init
loop-at-init c =
    let cases = c.in_ok-letter.ensures.cases in (
      omega (arith, cases.1),
      a_kind c.args.line.now _ _ cases.0 _ (made_of _ _ c.try_from.ensures c.ok.ensures.value) c.in_ok-kind.kind _ c.in_ok-kind.was c.of_kind-parsed.ensures,
    )

pub returns-in_err-parsed : goal.returns-in_err-parsed
returns-in_err-parsed c =
    let line = c.args.line.now in
    let at = c.loop-at in
    c.from_residual-in_err-parsed.ensures
    ∙ sym (next_field line at.parsed None at.at c.until_space.result (omega arith) c.until_space.ensures.0 (sym c.in_err-parsed.was ∙ c.with_field.ensures))
    ∙ at.invariant.1

pub loop-at-preserved : goal.loop-at-preserved
loop-at-preserved c =
    let line = c.args.line.now in
    let at = c.loop-at in
    let w = c.until_space in (
      inside_line line at.at w.result (omega arith) w.ensures.1,
      sym (next_field line at.parsed (Some c.in_ok-parsed.parsed) at.at w.result (omega arith) w.ensures.0 (sym c.in_ok-parsed.was ∙ c.with_field.ensures))
          ∙ at.invariant.1,
    )

pub returns : goal.returns
returns c =
    let at = c.loop-at in
    sym (fields_end c.args.line.now at.parsed at.at (omega arith)) ∙ at.invariant.1

-- `vectors::call::repeat` meets its contract. Assumes nothing.
use Rattle.std.proofs.Common.{◌≡◌, ◌∙◌, arith, rules, None}
use Rattle.vectors.proofs.Conversions.{made_of}
use Rattle.vectors.proofs.call.RecordedCalls.{lowest_first, high, eight_bytes, too_long, same_call, no_reader, asked}
use Rattle.vectors.proofs.call.repeat.Goals as goal

pub returns-then-end-whole : goal.returns-then-end-whole
returns-then-end-whole c =
    let a = c.args in
    let what = c.to_be_bytes-asked in
    too_long a.what a.bytes a.format _ _ (c.from-end.ensures ∙ high what.result a.what 2 what.ensures) (eight_bytes _ _ c.to_le_bytes-buffer.ensures) c.if-end-whole.true

pub returns : goal.returns
returns c =
    let a = c.args in
    let what = c.to_be_bytes-asked in
    let buffer = c.to_le_bytes-buffer.ensures in
    let end = c.from-end.ensures ∙ high what.result a.what 2 what.ensures in
    let r = c.in_ok-reader.reader in
    asked a.what a.bytes a.format _ _ end (eight_bytes _ _ buffer) (omega arith) _ _ (high what.result a.what 1 what.ensures) (made_of _ _ c.try_from.ensures c.ok.ensures.value)
    r c.answer_to.result c.in_ok-reader.was
    (same_call a.what a.bytes a.format _ _ end (buffer ∙ lowest_first a.bytes) r c.answer_to.result _ _ _
    (high what.result a.what 0 what.ensures) (high what.result a.what 7 what.ensures) c.state_of.ensures c.answer_to.ensures)

pub returns-in_err-reader : goal.returns-in_err-reader
returns-in_err-reader c =
    let a = c.args in
    let what = c.to_be_bytes-asked in
    let none : c.from_residual.result ≡ None = search rules in
    none ∙ no_reader a.what a.bytes a.format _ _ (c.from-end.ensures ∙ high what.result a.what 2 what.ensures) (eight_bytes _ _ c.to_le_bytes-buffer.ensures) (omega arith) _ _
    (high what.result a.what 1 what.ensures) (made_of _ _ c.try_from.ensures c.ok.ensures.value) c.in_err-reader.was

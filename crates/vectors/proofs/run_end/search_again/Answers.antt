-- `vectors::run_end::search_again` meets its contract. Assumes nothing.
use Rattle.std.proofs.Common.{◌∙◌, arith}
use Rattle.vectors.proofs.call.RecordedCalls.{high}
use Rattle.vectors.proofs.run_end.LongBuffers.{too_long, searched}
use Rattle.vectors.proofs.run_end.search_again.Goals as goal

pub returns-then-end-whole : goal.returns-then-end-whole
returns-then-end-whole c =
    let a = c.args in
    let what = c.to_be_bytes-asked in
    let buffer = c.long_buffer_of-buffer in
    too_long a.what a.numbers buffer.result _ buffer.ensures (c.from-end.ensures ∙ high what.result a.what 1 what.ensures) c.if-end-whole.true

pub returns : goal.returns
returns c =
    let a = c.args in
    let what = c.to_be_bytes-asked in
    let buffer = c.long_buffer_of-buffer in
    searched a.what a.numbers buffer.result _ buffer.ensures (c.from-end.ensures ∙ high what.result a.what 1 what.ensures)
    _ _ _ _ (omega arith) (high what.result a.what 0 what.ensures) (c.from-at.ensures ∙ high what.result a.what 2 what.ensures)
    c.search_run-found.ensures c.pack_search.ensures

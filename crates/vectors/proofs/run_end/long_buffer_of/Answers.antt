-- `vectors::run_end::long_buffer_of` meets its contract. Assumes nothing.
use Rattle.std.proofs.Common.{◌≡◌, ◌∙◌}
use Rattle.vectors.specs.Call.{buffer_of}
use Rattle.vectors.specs.RunEnd.{eight_of, long_buffer_of}
use Rattle.vectors.proofs.call.RecordedCalls.{lowest_first}
use Rattle.vectors.proofs.run_end.long_buffer_of.Goals as goal

pub returns : goal.returns
unfolding buffer_of long_buffer_of
returns c =
    let n = c.args.numbers in
    let e0 : c.copy_from_slice.new.self ≡ eight_of n 0 = c.copy_from_slice.ensures.after ∙ c.to_le_bytes.ensures ∙ lowest_first _ in
    let e1 : c.copy_from_slice-2.new.self ≡ eight_of n 1 = c.copy_from_slice-2.ensures.after ∙ c.to_le_bytes-2.ensures ∙ lowest_first _ in
    let e2 : c.copy_from_slice-3.new.self ≡ eight_of n 2 = c.copy_from_slice-3.ensures.after ∙ c.to_le_bytes-3.ensures ∙ lowest_first _ in
    let e3 : c.copy_from_slice-4.new.self ≡ eight_of n 3 = c.copy_from_slice-4.ensures.after ∙ c.to_le_bytes-4.ensures ∙ lowest_first _ in
    let e4 : c.copy_from_slice-5.new.self ≡ eight_of n 4 = c.copy_from_slice-5.ensures.after ∙ c.to_le_bytes-5.ensures ∙ lowest_first _ in
    rw (e4, e3, e2, e1, e0)

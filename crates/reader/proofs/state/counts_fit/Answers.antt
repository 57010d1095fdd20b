-- `reader::state::counts_fit` meets its contract: what is left of the cursor is compared, and no sum is formed. Assumes nothing.
use Rattle.std.proofs.Common.{◌-◌, sym, arith}
use borrow.Author.Tests.{lt-leb}
use Rattle.reader.specs.State.{count_sum}
use Rattle.reader.proofs.state.Refusals.{leb_same}
use Rattle.reader.proofs.state.counts_fit.Goals as goal

pub returns-then-cursor-integer : goal.returns-then-cursor-integer
returns-then-cursor-integer c = let st = c.args.state in sym (lt-leb (count_sum st) st.cursor (omega arith))

pub returns-then-cursor-integer-2 : goal.returns-then-cursor-integer-2
returns-then-cursor-integer-2 c = let st = c.args.state in sym (lt-leb (count_sum st) st.cursor (omega arith))

pub returns : goal.returns
returns c =
    let st = c.args.state in
    leb_same st.exponent.0 (st.cursor - st.integer.0 - st.fraction.0) (count_sum st) st.cursor (λ h. omega arith) (λ h. omega arith)

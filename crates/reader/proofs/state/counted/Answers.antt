-- `reader::state::counted` meets its contract. Assumes nothing.
use Rattle.std.proofs.Common.{◌≤◌, arith}
use Rattle.reader.specs.State.{count_sum}
use Rattle.reader.proofs.state.Updates.{count_in_sum, raised}
use Rattle.reader.proofs.state.counted.Goals as goal

pub overflow_add-count : goal.overflow_add-count
overflow_add-count c =
    let a = c.args in
    let within : c.count.result ≤ count_sum a.state = rw c.count.ensures (count_in_sum a.state _) in
    omega (arith, within, c.requires)

pub returns : goal.returns
returns c =
    let a = c.args in rw (c.with_count.ensures, c.count.ensures) (raised a.state a.reader)

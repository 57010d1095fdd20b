-- `vectors::call::packed_state` meets its contract. Assumes nothing.
use Rattle.vectors.specs.Call.{with_state}
use Rattle.vectors.proofs.call.packed_state.Goals as goal

pub returns : goal.returns
unfolding with_state
returns c = cc

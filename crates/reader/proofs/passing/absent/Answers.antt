-- `reader::passing::absent` meets its contract. Assumes nothing.
use Rattle.std.proofs.Common.{refl}
use Rattle.reader.specs.Reading.{neighbour_of}
use Rattle.reader.proofs.passing.absent.Goals as goal

pub returns : goal.returns
unfolding neighbour_of
returns c = λ syntax. refl

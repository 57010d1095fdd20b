-- `word::not_feature_format::has_valid_flags` meets its contract. Assumes nothing.
use Rattle.word.specs.Check.{plain_flags}
use Rattle.word.proofs.not_feature_format.has_valid_flags.Goals as goal

pub returns : goal.returns
unfolding plain_flags
returns c = rw (c.low_bits.ensures, c.low_bits-2.ensures)

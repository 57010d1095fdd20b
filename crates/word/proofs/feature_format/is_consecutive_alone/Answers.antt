-- `word::feature_format::is_consecutive_alone` meets its contract. Assumes nothing.
use Rattle.word.specs.Check.{consecutive_alone}
use Rattle.word.proofs.feature_format.is_consecutive_alone.Goals as goal

pub returns : goal.returns
unfolding consecutive_alone
returns c = cc

-- `word::byte_set::ByteSet::insert` meets its contract. Assumes nothing.
use Rattle.std.proofs.Common.{◌%◌, rules}
use Rattle.word.specs.ByteSet.{member}
use Rattle.word.proofs.Masks.{one_shifted}
use Rattle.word.proofs.byte_set.Members.{inserted}
use Rattle.word.proofs.byte_set.ByteSet.insert.Goals as goal

pub returns : goal.returns
unfolding member
returns c x h =
    let a = c.args in
    rw (c.from.ensures, one_shifted (a.b % 64) (search rules)) (inserted a.self.bits a.b x (search rules) (search rules))

-- `script::record::byte_at` meets its contract. Assumes nothing.
use Rattle.script.proofs.record.Numbers.{byte_number}
use Rattle.script.proofs.record.byte_at.Goals as goal

pub returns : goal.returns
returns c = byte_number c.args.body.now c.args.place c.requires

-- `export::here::put_place` meets its contract. Assumes nothing.
use Rattle.export.proofs.here.LentWords.{placed}
use Rattle.export.proofs.here.put_place.Goals as goal

pub returns : goal.returns
returns c = placed c.args.w.now c.args.place c.told-w

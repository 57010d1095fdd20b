-- `script::line::long_number` meets its contract. Assumes nothing.
use mathlib.Core.Path.{refl}
use native.Mathlib.Omega.{arith}
use lib.ListN.{length-take}
use Rattle.script.proofs.line.Decimals.{few_enough, spelled}
use Rattle.script.proofs.line.Writes.{wrote_as}
use Rattle.script.proofs.line.long_number.Goals as goal

pub put_all-requires : goal.put_all-requires
put_all-requires c =
    simp length-take (omega (arith, few_enough c.args.n c.decimal-k.result (omega arith) c.decimal-k.ensures.len))

pub returns : goal.returns
returns c =
    let k = c.decimal-k.result in
    let bytes = spelled c.args.n k c.decimal-k.new.out (omega arith) c.decimal-k.ensures.len c.decimal-k.ensures.digits in
    let w = c.put_all.ensures in record {
      wrote = wrote_as w bytes refl;
      short = omega (arith, w.place, length-take k c.decimal-k.new.out, few_enough c.args.n k (omega arith) c.decimal-k.ensures.len);
    }

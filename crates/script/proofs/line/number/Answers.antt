-- `script::line::number` meets its contract. Assumes nothing.
use mathlib.Core.Path.{refl, sym}
use native.Mathlib.Omega.{arith}
use Rattle.script.proofs.line.Decimals.{digit_alone}
use Rattle.script.proofs.line.Writes.{wrote_as}
use Rattle.script.proofs.line.number.Goals as goal

pub returns-then-n-lt10 : goal.returns-then-n-lt10
returns-then-n-lt10 c =
    let w = c.put.ensures in record {
      wrote = wrote_as w (sym (digit_alone c.args.n (omega arith))) refl;
      short = omega (arith, w.place);
    }

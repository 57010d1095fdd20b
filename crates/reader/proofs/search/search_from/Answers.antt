-- `reader::search::search_from` meets its contract. Assumes nothing.
use Rattle.std.proofs.Common.{◌<◌, arith, drop-drop, length-drop}
use Rattle.std.specs.Int.NonZero.{non_zero_u8_get}
use Rattle.std.proofs.lemmas.List.{take_rest}
use Rattle.reader.proofs.search.RunSteps.{all_steps}
use Rattle.reader.proofs.search.search_from.Goals as goal

pub returns : goal.returns
returns c =
    let a = c.args in
    let separator = non_zero_u8_get a.separator in
    let positive : 0 < separator = a.separator.ok in
    let e = simp take_rest at c.eight_steps-eights.ensures in
    let o = simp drop-drop at (simp take_rest at c.single_steps-ones.ensures) in (
      all_steps separator a.s.now a.at _ _ _ _ positive e.0 (omega arith) o.0 (omega arith),
      omega (arith, simp length-drop at e.1, simp length-drop at o.1),
    )

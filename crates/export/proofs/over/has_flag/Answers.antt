-- `export::over::has_flag` meets its contract: the flag stands in the lower half. Assumes nothing.
use mathlib.Core.Path.{◌∙◌, ap}
use Prim.Native.Nat.{ℕ, ◌+◌}
use native.Mathlib.Omega.{arith}
use lib.Dec.{eqb}
use Rattle.word.specs.Bits.{bit}
use Rattle.word.specs.Word.{field, flag}
use Rattle.word.proofs.format_flags.Halves.{low_half}
use borrow.Author.Rules.{rules}
use Rattle.export.proofs.over.has_flag.Goals as goal

pub returns : goal.returns
unfolding bit flag field
returns c =
    let a = c.args in
    rw c.from.ensures at c.bit_at.ensures ∙ ap (λ (k : ℕ). eqb k 1) (low_half a.format (a.first + a.reader) 1 (search rules) (omega (arith, c.requires)))

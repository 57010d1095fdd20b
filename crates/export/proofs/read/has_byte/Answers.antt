-- `export::read::has_byte` meets its contract: the four words are the set's own. Assumes nothing.
use mathlib.Core.Path.{◌≡◌, ◌∙◌, refl, sym, ap}
use mathlib.Core.List.{List}
use Prim.Native.Nat.{ℕ, zero, suc, ◌/◌, ◌%◌, ◌<◌}
use native.Mathlib.Omega.{arith}
use lib.ListN.{get_or}
use Rattle.word.specs.Bits.{bit}
use Rattle.word.specs.ByteSet.{member}
use Rattle.export.specs.Calls.{set_in}
use borrow.Author.Rules.{rules}
use Rattle.export.proofs.read.has_byte.Goals as goal

own_word : (set : List ℕ) (k : ℕ) → k < 4 → get_or (set_in set).bits k 0 ≡ get_or set k 0
own_word set zero h = refl
own_word set (suc zero) h = refl
own_word set (suc (suc zero)) h = refl
own_word set (suc (suc (suc zero))) h = refl
own_word set (suc (suc (suc (suc k)))) h = absurd (omega (arith, h))

pub returns : goal.returns
unfolding member
returns c =
    let b = c.args.b in
    rw (c.from-at.ensures, c.from.ensures) at c.bit_at.ensures ∙ ap (λ (x : ℕ). bit x (b % 64)) (sym (own_word c.args.set.now (b / 64) (search rules)))

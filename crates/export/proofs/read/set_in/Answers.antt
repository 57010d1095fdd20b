-- `export::read::set_in` meets its contract: the set is the list of its four words. Assumes nothing.
use Rattle.std.proofs.Common.{◌≡◌, refl, ℕ, List, [], ◌∷◌, length, arith}
use Rattle.word.specs.declared.byte_set.ByteSet.{ByteSet}
use Rattle.export.specs.Calls.{set_in}
use Rattle.export.proofs.read.set_in.Goals as goal

whole : (set : List ℕ) → length set ≡ 4 → ◌≡◌ {A = ByteSet} (record { bits = set }) (set_in set)
whole (a ∷ b ∷ c ∷ d ∷ []) four = refl
whole [] four = absurd (omega (arith, four))
whole (a ∷ []) four = absurd (omega (arith, four))
whole (a ∷ b ∷ []) four = absurd (omega (arith, four))
whole (a ∷ b ∷ c ∷ []) four = absurd (omega (arith, four))
whole (a ∷ b ∷ c ∷ d ∷ e ∷ more) four = absurd (omega (arith, four))

pub returns : goal.returns
returns c = whole c.args.set.now c.told-set

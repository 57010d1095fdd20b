-- Demand 1 of a catalogue: a refused act is told by one of its numbers, for its own fault, and leaves the catalogue that it was given. Assumes
-- nothing.
use Rattle.std.specs.Prelude.{◌≡◌, ◌⊎◌, true, false, ℕ, ◌≤◌, is_some}
use Rattle.word.specs.declared.format_flags.Format.{Format}
use Rattle.word.specs.Check.{full_check}
use Rattle.catalogue.specs.Catalogue.{Catalogue, size, word_in}
use Rattle.catalogue.specs.Acts.{Act, add, remove, number_for, after}

-- the check's own number; 25 "school number 0 or listed already"; 26 "catalogue full"
abbrev pub AddFault : Catalogue → ℕ → Format → ℕ → Type 0
AddFault c school f number =
    ((number ≡ full_check f) × (number ≡ 0 → ⊥))
    ⊎ (((number ≡ 25) × ((school ≡ 0) ⊎ (is_some (word_in c school) ≡ true))) ⊎ ((number ≡ 26) × (64 ≤ size c)))

-- 27 "school not listed"
abbrev pub Fault : Catalogue → Act → ℕ → Type 0
Fault c (add school f) number = AddFault c school f number
Fault c (remove school) number = (number ≡ 27) × (is_some (word_in c school) ≡ false)

pub record ActRefusalKeeps (c : Catalogue) (act : Act) : Type 0 where
  pub number : Fault c act (number_for c act)
  pub catalogue : after c act ≡ c

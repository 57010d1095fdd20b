-- The place where a school's entry stands or would stand. Assumes nothing.
use Rattle.std.specs.Prelude.{◌≡◌, ℕ, suc, ◌+◌, ◌<◌, ◌≤◌, true, false, is_some, if◌then◌else◌, List, [], ◌∷◌, nat_lt, drop}
use Rattle.catalogue.specs.declared.entries.Entry.{Entry}
use Rattle.catalogue.specs.Catalogue.{Catalogue, listing, size, word_in}

-- how many entries with a smaller number stand in front
abbrev pub before : ℕ → List Entry → ℕ
before n [] = 0
before n (e ∷ rest) = if nat_lt e.school n then suc (before n rest) else 0

-- a search that has come to a place: the entries passed over have smaller numbers
pub record Passed (c : Catalogue) (n at : ℕ) : Type 0 where
  pub within : at ≤ size c
  pub smaller : before n (listing c) ≡ at + before n (drop at (listing c))

-- a listed school's entry stands there
pub record StandsAt (c : Catalogue) (n at : ℕ) : Type 0 where
  pub within : at < size c
  pub place : at ≡ before n (listing c)
  pub listed : is_some (word_in c n) ≡ true

-- one that is not listed would be put there
pub record BelongsAt (c : Catalogue) (n at : ℕ) : Type 0 where
  pub within : at ≤ size c
  pub place : at ≡ before n (listing c)
  pub unlisted : is_some (word_in c n) ≡ false

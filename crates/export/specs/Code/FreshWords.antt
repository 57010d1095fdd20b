-- The lent words of a fresh state, for the quick ways of grouped cells. Assumes nothing.
use Rattle.std.specs.Prelude.{◌≡◌, true, cond, List, [], ◌∷◌, ℕ, ◌+◌, ◌<◌, ◌≤◌, nat_eq, slice_index}
use Rattle.word.specs.Word.{flag, digit_separator}
use Rattle.export.specs.State.{state_in}

-- w is fresh, of a known edition, and n a counted reader that may pass separators between digits
pub record FreshWords (n : ℕ) (w : List ℕ) : Type 0 where
  pub low : n ≤ 2
  pub edition : slice_index w 7 ≡ 0
  pub cursor : slice_index w 2 ≡ 0
  pub integer : slice_index w 3 ≡ 0
  pub fraction : slice_index w 4 ≡ 0
  pub exponent : slice_index w 5 ≡ 0
  pub positive : 0 < digit_separator (state_in w).format
  pub internal : flag (state_in w).format (32 + n) ≡ true

-- its words at a place, with so many digits counted
abbrev pub end_words : ℕ → ℕ → ℕ → List ℕ → List ℕ
end_words n at count w =
    slice_index w 0 ∷ slice_index w 1 ∷ at ∷ cond (nat_eq n 0) count 0 ∷ cond (nat_eq n 1) count 0 ∷ cond (nat_eq n 2) count 0 ∷ slice_index w 6 ∷ slice_index w 7 ∷ []

-- Bytes of a buffer as one number, as which the compare of eight of them is compiled (src/search.rt). Assumes nothing.
use Rattle.std.specs.Prelude.{◌≡◌, ℕ, ◌+◌, ◌*◌, ◌^◌, ◌<◌, List, [], ◌∷◌, length, take, drop}

-- digits of a base as one number, the first lowest
abbrev pub number_in : ℕ → List ℕ → ℕ
number_in base [] = 0
number_in base (d ∷ rest) = d + base * number_in base rest

-- each of them is below the base
abbrev pub AllBelow : ℕ → List ℕ → Type 0
AllBelow base [] = Unit {0}
AllBelow base (d ∷ rest) = (d < base) × AllBelow base rest

-- r is the number of n digits
pub record NumberOf (base n : ℕ) (digits : List ℕ) (r : ℕ) : Type 0 where
  pub number : r ≡ number_in base digits
  pub below : AllBelow base digits
  pub count : length digits ≡ n
  pub small : r < base ^ n

-- r is the number of the n bytes from a place on
abbrev pub BytesAt : ℕ → List ℕ → ℕ → ℕ → Type 0
BytesAt n s at r = NumberOf 256 n (take n (drop at s)) r
